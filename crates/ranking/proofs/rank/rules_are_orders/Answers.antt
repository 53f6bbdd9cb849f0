use Rattle.ranking.proofs.Orderings.{rules_order}
use Rattle.ranking.proofs.rank.rules_are_orders.Goals as goal

pub returns-clause-orders : goal.returns-clause-orders
returns-clause-orders c = rules_order
