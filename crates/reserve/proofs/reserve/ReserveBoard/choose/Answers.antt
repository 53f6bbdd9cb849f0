use Rattle.std.proofs.Common.{List, ℕ, cond, length, get_or, ap, ◌∙◌}
use Rattle.deck.specs.Contents.{data_of}
use Rattle.board.specs.Marks.{member}
use Rattle.board.specs.Marked.{marks_of}
use Rattle.board.proofs.Through.{chosen_over}
use Rattle.matching.specs.Sets.{minus}
use Rattle.reserve.specs.Reserve.{part_of}
use Rattle.reserve.proofs.reserve.ReserveBoard.choose.Goals as goal

pub returns : goal.returns
returns g c =
    let s = c.args.self.now in
    let t = data_of c.args.deck.now in
    let part = c.in_ok-taken.ensures in
    chosen_over (part_of s t) (g.C.Board.kept s.below t) (length t.contracts) c.args.marks.now (marks_of c.in_ok-taken.taken)
    c.take_out.new.marks c.choose.new.marks c.put_in.new.marks part.0 part.1
    (c.take_out.ensures ∙ ap (λ (xs : List ℕ). minus (member c.args.marks.now) (member xs)) c.marks.ensures)
    c.in_ok-choose.ensures.1 c.put_in.auto.marks
    (λ k h. c.put_in.ensures k h ∙ ap (λ (xs : List ℕ). cond (member xs k) 1 (get_or c.choose.new.marks k 0)) c.marks-2.ensures)
