use Rattle.bar.proofs.Barring.{spans_none}
use Rattle.bar.proofs.bars.spans_of.Goals as goal

pub loop-i-init : goal.loop-i-init
loop-i-init c = spans_none c.default-spans.result c.args.bars.now c.default-spans.ensures.0 c.default-spans.ensures.1
