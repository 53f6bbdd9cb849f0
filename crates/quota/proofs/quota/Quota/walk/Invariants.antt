use Rattle.std.proofs.Common.{◌≡◌, length}
use Rattle.matching.specs.Sets.{Set}
use Rattle.rules.specs.declared.table.Rule.TheVariants.{Rank}
use Rattle.ranking.specs.Rows.{Ordered}
use Rattle.quota.proofs.Walks.{Walking}
use Rattle.quota.proofs.quota.Quota.walk.Given as goal

abbrev pub invariant-loop-number : goal.invariant-loop-number
invariant-loop-number l = record {
  walks : (X : Set) → Ordered Rank l.contracts X l.row → Walking l.self.rows l.contracts X l.row l.sums l.stops l.number-index;
  long : length l.stops ≡ 2048;
}
