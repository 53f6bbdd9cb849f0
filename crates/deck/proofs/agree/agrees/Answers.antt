use Rattle.std.proofs.Common.{subst, sym}
use Rattle.rules.specs.Contents.{Content}
use Rattle.intake.specs.Fillings.{Full}
use Rattle.intake.specs.Book.{Fills}
use Rattle.deck.proofs.Agreements.{agreed, matched}
use Rattle.deck.proofs.agree.agrees.Goals as goal

pub returns : goal.returns
returns c =
    let e = sym c.tables.ensures in
    let x = subst (λ (t : Content). Full t) e c.take_in.new.self.full in
    let f = subst (λ (t : Content). Fills c.args.bytes.now c.in-Ok.had t) e c.in-Ok.ensures.answers in
    ((λ e. agreed _ _ _ _ _ x f (c.matches.ensures.0 e)), (λ k. c.matches.ensures.1 (matched _ _ _ _ _ x f k)))
