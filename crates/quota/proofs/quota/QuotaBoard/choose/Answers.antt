use Rattle.std.proofs.Common.{List, ℕ, get_or, is_none, length, None, rules, sym, ap, subst, ◌∙◌}
use Rattle.deck.specs.declared.deck.Deck.{Deck}
use Rattle.deck.specs.Contents.{data_of}
use Rattle.board.specs.Marks.{member}
use Rattle.quota.specs.Walk.{Told}
use Rattle.quota.proofs.Answering.{kept_are}
use Rattle.quota.proofs.quota.QuotaBoard.choose.Goals as goal

pub returns : goal.returns
returns c =
    let rows = c.args.self.now.rows in
    let copied = c.in_ok-list.ensures in
    let stops = c.find_stops-stops.result in
    let long = ap length (sym copied.1) ∙ c.in_ok-list.list.fits ∙ ap (λ (d : Deck). length (data_of d).contracts) copied.0 in
    let told = subst (λ (xs : List ℕ). Told rows (data_of c.args.deck.now).contracts (member xs) stops) copied.1
    (subst (λ (d : Deck). Told rows (data_of d).contracts (member c.in_ok-list.list.marks.items) stops) copied.0 c.find_stops-stops.ensures) in (
      long,
      c.keep_only.ensures.kept (λ j. is_none (get_or stops j None)) (λ k b l q. search rules)
          ∙ kept_are rows (data_of c.args.deck.now).contracts c.args.marks.now stops long told,
    )
