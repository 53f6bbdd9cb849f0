use Rattle.quota.proofs.Climbs.{Climbing}
use Rattle.quota.proofs.quota.Quota.climb.Given as goal

abbrev pub invariant-loop-v : goal.invariant-loop-v
invariant-loop-v l = Climbing l.self.rows l.initial.sums l.sums l.group l.v

abbrev pub decreases-loop-v : goal.decreases-loop-v
decreases-loop-v l = l.v
