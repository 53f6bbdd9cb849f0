use Rattle.std.proofs.Common.{◌≡◌, ◌≤◌, length}
use Rattle.board.specs.Marks.{member}
use Rattle.ranking.specs.Keys.{keys_below}
use Rattle.ranking.proofs.row.in_row.Given as goal

abbrev pub invariant-loop-k : goal.invariant-loop-k
invariant-loop-k l = (length l.keys.items ≤ l.k) × (l.keys.items ≡ keys_below l.rule l.contracts l.k (member l.marks))
