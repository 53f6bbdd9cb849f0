use Rattle.intake.specs.Refusals.{refusal}
use Rattle.listing.specs.Print.{written}
use Rattle.listing.proofs.Outcomes.{refused_text, refused_line}
use Rattle.listing.proofs.report.refused.Goals as goal

pub returns-clause-line : goal.returns-clause-line
returns-clause-line c =
    refused_line c.finish.result.items (written c.new-printer.result) (written c.refusal_line.new.self) (refusal c.args.fault) c.into.result
    c.into.ensures c.new-printer.ensures c.in_ok-refusal_line.ensures c.finish.ensures

pub returns-clause-outcome : goal.returns-clause-outcome
returns-clause-outcome c all due =
    refused_text all c.finish.result.items (written c.new-printer.result) (written c.refusal_line.new.self) (refusal c.args.fault) c.into.result
    due c.into.ensures c.new-printer.ensures c.in_ok-refusal_line.ensures c.finish.ensures
