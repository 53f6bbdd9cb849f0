use Rattle.std.proofs.Common.{not, ◌∙◌, ap₂, rules}
use Rattle.board.specs.Marked.{list_of}
use Rattle.board.specs.Marks.{marked}
use Rattle.seats.proofs.choice.SeatsBoard.choose.Goals as goal

pub returns : goal.returns
returns c =
    (c.in_ok-rest.ensures.0, c.keep_only.ensures.kept (λ k. not (list_of c.in_ok-rest.rest k)) (λ k b h q. search rules) ∙ ap₂ marked c.in_ok-rest.ensures.0 c.in_ok-rest.ensures.2)
