-- What a board of seats does with a list.
use Rattle.std.specs.Prelude.{◌≡◌, ℕ, List, length, Ok, Err, Result}
use Rattle.rules.specs.declared.table.Seat.{Seat}
use Rattle.deck.specs.declared.deck.Deck.{Deck}
use Rattle.deck.specs.Contents.{data_of}
use Rattle.matching.specs.Sets.{minus}
use Rattle.board.specs.declared.marked.Marked.{Marked}
use Rattle.board.specs.declared.unfit.Unfit.{Unfit}
use Rattle.board.specs.Marked.{deck_of, list_of}
use Rattle.board.specs.Marks.{member}
use Rattle.board.specs.Refusals.{number, asks_marks}
use Rattle.seats.specs.declared.seats.Seats.{Seats}
use Rattle.seats.specs.Taking.{seated}

-- the seats of a board, in list order
abbrev pub seats_of : Seats → List Seat
seats_of b = b.seats.items

-- what is missing from a list is what the seats take; or the refusal of marks that don't fit
abbrev pub Left : List Seat → Deck → List ℕ → Result Marked Unfit → Type 0
Left ss d marks (Ok m) =
    (length marks ≡ length (data_of d).contracts) × (deck_of m ≡ d)
    × (minus (member marks) (list_of m) ≡ seated ss (data_of d).contracts (member marks))
Left ss d marks (Err e) = number e ≡ asks_marks (length (data_of d).contracts) (length marks)
