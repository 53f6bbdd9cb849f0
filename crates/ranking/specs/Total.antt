-- The order on keys is total, and two keys are alike in it just where they are equal.
use Rattle.std.specs.Prelude.{◌≡◌, ◌&&◌, ◌==◌}
use Rattle.std.specs.Cmp.{IsTotalOrder}
use Rattle.std.specs.Ordering.{is_eq}
use Rattle.ranking.specs.declared.key.Key.{Key}
use Rattle.ranking.specs.contracts.key.KeyOrd.TheImpl.Laws.{total-law, matches_eq-law}
use Rattle.ranking.specs.Keys.{compared}

pub compared_total : IsTotalOrder compared
compared_total = total-law

pub compared_ties : (a b : Key) → (a.dredger == b.dredger && (a.term == b.term && (a.points.0 == b.points.0 && (a.lot == b.lot && a.number == b.number)))) ≡ is_eq (compared a b)
compared_ties a b = matches_eq-law a b
