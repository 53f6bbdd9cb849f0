use Rattle.std.proofs.Common.{true}
use Rattle.seats.specs.Rows.{Points}
use Rattle.seats.proofs.lineup.starts.Given as goal

abbrev pub invariant-loop-i : goal.invariant-loop-i
invariant-loop-i l = Points l.contracts (λ k. true) l.numbers l.i l.next
