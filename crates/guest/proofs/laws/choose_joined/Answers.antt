use Rattle.std.proofs.Common.{length}
use Rattle.deck.specs.Contents.{data_of, bytes_of}
use Rattle.board.specs.Decks.{OfDeck}
use Rattle.guest.proofs.Repeating.{shortlisted}
use Rattle.guest.proofs.laws.choose_joined.Goals as goal

pub returns : goal.returns
returns g c xs ys a e =
    let b = c.args.b.now in
    let d = c.args.deck.now in
    let t = data_of d in
    let o : OfDeck t = (bytes_of d, d.lawful) in
    let m = g.met.B.Board in
    shortlisted (g.B.Board.kept b t) (length t.contracts) (record { part = m.part b t o; substitutable = m.substitutable b t o; irrelevant = m.irrelevant b t o })
    xs ys c.args.first.now c.args.second.now c.put_in.new.marks c.choose.new.marks c.choose.result
    a e c.put_in.auto.marks c.put_in.ensures c.choose.ensures
