use Rattle.ranking.proofs.Orderings.{rank_orders}
use Rattle.ranking.proofs.rank.rank_is_an_order.Goals as goal

pub returns-clause-orders : goal.returns-clause-orders
returns-clause-orders c = rank_orders
