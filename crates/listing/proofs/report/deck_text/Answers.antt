use Rattle.std.proofs.Common.{ap}
use Rattle.listing.specs.Lines.{line_of_counts}
use Rattle.listing.proofs.Chain.{as_said, then}
use Rattle.listing.proofs.report.deck_text.Goals as goal

pub returns : goal.returns
returns c =
    then (as_said (ap line_of_counts c.counts_of.ensures) c.in_ok-counts_line.ensures)
    (then c.in_ok-trainee_lines.ensures c.in_ok-put.ensures)
