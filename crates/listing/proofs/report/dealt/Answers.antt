use Rattle.std.proofs.Common.{vec_items}
use Rattle.rules.specs.Contents.{content_of}
use Rattle.deck.specs.Contents.{bytes_of, data_of}
use Rattle.listing.specs.Print.{written}
use Rattle.listing.proofs.Outcomes.{dealt_text}
use Rattle.listing.proofs.report.dealt.Goals as goal

pub returns : goal.returns
returns c =
    let b = c.in_default.ensures in
    dealt_text c.args.bytes.now (bytes_of c.bind.new.self) (vec_items c.finish.result) (written c.new-printer.result) (written c.deck_text.new.printer)
    c.args.counts (content_of c.args.tables) (data_of c.bind.new.self) c.requires b.1 b.2 c.new-printer.ensures c.in_ok-deck_text.ensures c.finish.ensures
