-- What a board's own copy of a list stands for.
use Rattle.std.specs.Prelude.{◌≡◌, ℕ, List, length, Ok, Err, Result}
use Rattle.deck.specs.declared.deck.Deck.{Deck}
use Rattle.deck.specs.Contents.{data_of}
use Rattle.rules.specs.declared.table.Contract.{Contract}
use Rattle.matching.specs.Sets.{Set}
use Rattle.board.specs.declared.marked.Marked.{Marked}
use Rattle.board.specs.declared.unfit.Unfit.{Unfit}
use Rattle.board.specs.Marks.{member}
use Rattle.board.specs.Refusals.{number, asks_marks}

abbrev pub deck_of : Marked → Deck
deck_of m = m.deck.now

abbrev pub contracts_of : Marked → List Contract
contracts_of m = (data_of (deck_of m)).contracts

abbrev pub marks_of : Marked → List ℕ
marks_of m = m.marks.items

-- the list itself
abbrev pub list_of : Marked → Set
list_of m = member (marks_of m)

-- a copy of marks that fit the deck, or the refusal of those that don't
abbrev pub Copied : Deck → List ℕ → Result Marked Unfit → Type 0
Copied d marks (Ok m) = (deck_of m ≡ d) × (marks_of m ≡ marks)
Copied d marks (Err e) = number e ≡ asks_marks (length (data_of d).contracts) (length marks)
