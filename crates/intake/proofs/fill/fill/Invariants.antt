use Rattle.std.proofs.Common.{◌-◌, length}
use Rattle.intake.specs.Rows.{Row}
use Rattle.intake.specs.Fillings.{SameLengths}
use Rattle.intake.specs.Lent.{SameTables, content_of_lent}
use Rattle.intake.proofs.States.{State}
use Rattle.intake.proofs.fill.fill.Given as goal

abbrev pub invariant-loop-entry : goal.invariant-loop-entry
invariant-loop-entry l = record {
  same : SameTables l.initial.tables l.tables;
  lengths : SameLengths (content_of_lent l.initial.tables) (content_of_lent l.tables);
  read : (rs : Row) × State l.bytes l.reader l.section l.had (content_of_lent l.tables) rs;
}

abbrev pub decreases-loop-entry : goal.decreases-loop-entry
decreases-loop-entry l = length l.bytes - l.reader.place
