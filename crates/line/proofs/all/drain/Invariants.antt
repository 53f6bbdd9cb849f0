use Rattle.std.proofs.Common.{◌≡◌, length}
use Rattle.line.proofs.all.drain.Given as goal

abbrev pub invariant-loop-t : goal.invariant-loop-t
invariant-loop-t g l = (g.L.Line.waiting l.line).places ≡ (g.L.Line.waiting l.initial.line).places

abbrev pub decreases-loop-t : goal.decreases-loop-t
decreases-loop-t g l = length (g.L.Line.waiting l.line).items
