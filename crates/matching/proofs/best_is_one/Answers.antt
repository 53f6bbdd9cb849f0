use Rattle.matching.proofs.Bests.{one_best}
use Rattle.matching.proofs.best_is_one.Goals as goal

pub returns-clause-one : goal.returns-clause-one
returns-clause-one c = one_best
