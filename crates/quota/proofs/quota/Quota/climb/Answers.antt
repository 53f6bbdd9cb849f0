use Rattle.std.proofs.Common.{sym, ap, ◌∙◌}
use Rattle.quota.proofs.Climbs.{turn_full, turn_top, turn_up}
use Rattle.quota.proofs.quota.Quota.climb.Goals as goal

pub loop-v-preserved : goal.loop-v-preserved
loop-v-preserved c =
    turn_up c.args.self.now.earlier c.loop-v.invariant c.row.ensures c.take_place.ensures.took c.take_place.ensures.sums
    c.in_ok-v.v c.loop-v-test.true (ap (λ r. r.parent) (sym c.row-in-loop-v.ensures) ∙ c.in_ok-v.was)

pub returns-in_err-v : goal.returns-in_err-v
returns-in_err-v c =
    turn_top c.args.self.now.earlier c.loop-v.invariant c.row.ensures c.take_place.ensures.took c.take_place.ensures.sums
    c.from_residual.result c.from_residual.ensures c.loop-v-test.true (ap (λ r. r.parent) (sym c.row-in-loop-v.ensures) ∙ c.in_err-v.was)

pub returns : goal.returns
returns c = turn_full c.args.self.now.earlier c.loop-v.invariant c.row.ensures c.take_place.ensures.took c.take_place.ensures.sums c.loop-v-test.false
