use Rattle.listing.specs.Lines.{line_of_trainee}
use Rattle.deck.specs.Contents.{bytes_of, data_of}
use Rattle.listing.proofs.Chain.{as_said, count_more, trainee_said}
use Rattle.listing.proofs.report.trainee_lines.Goals as goal

pub loop-k-preserved : goal.loop-k-preserved
loop-k-preserved c =
    let read = trainee_said (bytes_of c.args.deck.now) _ (data_of c.args.deck.now) c.trainees-trainee-items.result.now c.contracts.result.now c.loop-k.k _
    c.bytes.ensures c.trainees-trainee-items.ensures c.contracts.ensures c.wish_count-n.ensures in
    count_more (line_of_trainee (bytes_of c.args.deck.now) (data_of c.args.deck.now)) c.loop-k.k c.loop-k.invariant
    (as_said read c.in_ok-name_line.ensures)
