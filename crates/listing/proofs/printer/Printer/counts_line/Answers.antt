use Rattle.listing.proofs.Chain.{then}
use Rattle.listing.proofs.printer.Printer.counts_line.Goals as goal

pub returns : goal.returns
returns c =
    then c.in_ok-put.ensures (then c.in_ok-field.ensures (then c.in_ok-field-2.ensures (then c.in_ok-field-3.ensures
    (then c.in_ok-field-4.ensures (then c.in_ok-field-5.ensures (then c.in_ok-field-6.ensures c.in_ok-put-2.ensures))))))
