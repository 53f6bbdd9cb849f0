use Rattle.std.proofs.Common.{true, false, not, length, sym, ap, ◌∙◌, rules}
use Rattle.deck.specs.declared.deck.Deck.{Deck}
use Rattle.deck.specs.Contents.{data_of}
use Rattle.board.specs.Marks.{member}
use Rattle.board.specs.Marked.{contracts_of, list_of, marks_of}
use Rattle.board.proofs.Copies.{copied_without}
use Rattle.board.proofs.Through.{explained_over, explained_first, read_at}
use Rattle.matching.specs.Sets.{minus}
use Rattle.reserve.specs.Reserve.{part_of}
use Rattle.reserve.proofs.reserve.ReserveExplain.why.Goals as goal

pub returns-then-has : goal.returns-then-has
returns-then-has g c =
    let s = c.args.self.now in
    let t = data_of c.args.deck.now in
    let xs = c.args.marks.now in
    let k = c.args.k in
    let R = part_of s t in
    let listed = c.in_ok-is_listed.ensures in
    explained_first R (g.C.Board.kept s.below t) (λ X j. g.C.Explain.reason s.below t (minus X (R X)) j) (length t.contracts) xs k listed.0 listed.1
    (sym listed.2 ∙ c.if-not-branch.false) (read_at (list_of c.in_ok-taken.taken) (R (member xs)) k true c.in_ok-taken.ensures.1 c.if-has.ensures)

pub returns : goal.returns
returns g c =
    let s = c.args.self.now in
    let t = data_of c.args.deck.now in
    let xs = c.args.marks.now in
    let k = c.args.k in
    let R = part_of s t in
    let listed = c.in_ok-is_listed.ensures in
    let B = list_of c.in_ok-taken.taken in
    let same = c.in_ok-taken.ensures.1 in
    let rest = c.in_ok-rest.rest in
    let struck = copied_without B (R (member xs)) (length (contracts_of rest)) (length t.contracts) (marks_of rest) c.marks.result.now xs
    rest.fits (ap (λ (d : Deck). length (data_of d).contracts) c.in_ok-rest.ensures.0) c.in_ok-rest.ensures.1 same
    (c.marks.ensures ∙ c.keep.ensures.kept (λ j. not (B j)) (λ j b h q. search rules)) in
    explained_over R (g.C.Board.kept s.below t) (g.C.Explain.reason s.below t) (length t.contracts) xs c.marks.result.now k c.why.result
    listed.0 struck.0 listed.1 struck.1 (read_at B (R (member xs)) k false same c.if-has.ensures) c.why.ensures
