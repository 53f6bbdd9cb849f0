use Rattle.std.proofs.Common.{rules}
use Rattle.quota.proofs.Makings.{made_none}
use Rattle.quota.proofs.quota.Quota.of.Goals as goal

pub loop-v-init : goal.loop-v-init
loop-v-init c = made_none _ _ (search rules) (search rules)
