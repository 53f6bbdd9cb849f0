use Rattle.matching.proofs.Thinning.{one_removed}
use Rattle.matching.proofs.Made.{without-lawful, over-lawful, beside-lawful}
use Rattle.matching.proofs.Firsts.{first-lawful}
use Rattle.matching.proofs.made_choices_stand.Goals as goal

pub returns-clause-removed : goal.returns-clause-removed
returns-clause-removed c = one_removed

pub returns-clause-without : goal.returns-clause-without
returns-clause-without c = without-lawful

pub returns-clause-over : goal.returns-clause-over
returns-clause-over c = over-lawful

pub returns-clause-beside : goal.returns-clause-beside
returns-clause-beside c = beside-lawful

pub returns-clause-first : goal.returns-clause-first
returns-clause-first c = first-lawful
