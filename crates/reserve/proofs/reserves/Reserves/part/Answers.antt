use Rattle.std.proofs.Common.{◌≡◌, length, sym, ap, ◌∙◌, rules}
use Rattle.deck.specs.declared.deck.Deck.{Deck}
use Rattle.deck.specs.Contents.{data_of}
use Rattle.matching.specs.Sets.{Set, common}
use Rattle.board.specs.Marks.{member}
use Rattle.board.specs.Marked.{contracts_of, list_of, marks_of}
use Rattle.board.proofs.Copies.{kept_common}
use Rattle.reserve.specs.Reserves.{entitled_of}
use Rattle.reserve.specs.Cutting.{part_is}
use Rattle.reserve.proofs.reserves.Reserves.part.Goals as goal

pub returns : goal.returns
returns c =
    let ps = c.args.self.now.places in
    let cs = c.contracts-contracts.result.now in
    let X = member c.args.marks.now in
    let own = c.in_ok-taken.taken in
    let copied = c.in_ok-taken.ensures in
    let kept = c.keep.new.self in
    let of_deck = ap (λ (d : Deck). (data_of d).contracts) (c.keep.ensures.deck ∙ copied.0) in
    let may : list_of kept ≡ common X (entitled_of ps (contracts_of kept)) =
    kept_common (entitled_of ps cs) (length (contracts_of own)) (marks_of own) (marks_of kept) own.fits (c.keep.ensures.kept (entitled_of ps cs) (λ k b h q. search rules))
    ∙ ap (λ (Y : Set). common Y (entitled_of ps cs)) (ap member copied.1)
    ∙ ap (λ (z : _). common X (entitled_of ps z)) (c.contracts-contracts.ensures ∙ sym of_deck) in (
      ap length (sym copied.1) ∙ own.fits ∙ ap (λ (d : Deck). length (data_of d).contracts) copied.0,
      part_is ps (contracts_of kept) (data_of c.args.deck.now).contracts X (list_of kept) (list_of c.cut.new.taken) of_deck may c.cut.ensures,
    )
