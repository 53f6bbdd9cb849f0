use Rattle.deck.specs.Contents.{bytes_of, data_of}
use Rattle.listing.specs.Lines.{lines_of_trainees}
use Rattle.listing.specs.Print.{Grew, written}
use Rattle.listing.proofs.report.trainee_lines.Given as goal

abbrev pub invariant-loop-k : goal.invariant-loop-k
invariant-loop-k l = Grew (written l.initial.printer) (written l.printer) (lines_of_trainees (bytes_of l.deck) (data_of l.deck) l.k)
