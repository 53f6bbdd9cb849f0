use Rattle.matching.proofs.Paths.{settled, path_independent}
use Rattle.matching.proofs.lawful_choices_stand.Goals as goal

pub returns-clause-settled : goal.returns-clause-settled
returns-clause-settled c = settled

pub returns-clause-paths : goal.returns-clause-paths
returns-clause-paths c = path_independent
