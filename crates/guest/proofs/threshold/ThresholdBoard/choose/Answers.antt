use Rattle.std.proofs.Common.{rules}
use Rattle.guest.specs.Thresholds.{enough}
use Rattle.guest.proofs.threshold.ThresholdBoard.choose.Goals as goal

pub returns : goal.returns
returns c = (
  c.in_ok-fit.ensures,
  rw c.in_ok-fit.ensures at c.keep_only.ensures.kept (enough c.args.self.now.least c.args.deck.now.tables.contracts.now) (λ k b h q. search rules),
)
