use Rattle.bar.specs.Bars.{Spans}
use Rattle.bar.proofs.bars.spans_of.Given as goal

abbrev pub invariant-loop-i : goal.invariant-loop-i
invariant-loop-i l = Spans l.spans l.bars l.i
