use Rattle.quota.proofs.Makings.{Made}
use Rattle.quota.proofs.quota.Quota.of.Given as goal

abbrev pub invariant-loop-v : goal.invariant-loop-v
invariant-loop-v l = Made l.groups l.rows l.v
