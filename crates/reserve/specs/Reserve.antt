-- The reserve part by a layer of reserves.
use Rattle.std.specs.Prelude.{◌≡◌, ℕ, List, length, Ok, Err, Result, slice_index}
use Rattle.rules.specs.declared.table.Contract.{Contract}
use Rattle.rules.specs.Contents.{Content}
use Rattle.matching.specs.Choices.{Choice, KeepsPart, Substitutable, Irrelevant, Lawful, over}
use Rattle.matching.proofs.Made.{over-lawful}
use Rattle.board.specs.declared.marked.Marked.{Marked}
use Rattle.board.specs.declared.unfit.Unfit.{Unfit}
use Rattle.board.specs.Decks.{OfDeck}
use Rattle.board.specs.Marked.{list_of}
use Rattle.board.specs.Marks.{member}
use Rattle.board.specs.Refusals.{number, asks_marks}
use Rattle.reserve.specs.declared.reserve.Reserve.{Reserve}
use Rattle.reserve.specs.declared.reserves.Reserves.{Reserves}
use Rattle.reserve.specs.Reserves.{reserved}
use Rattle.reserve.specs.Cutting.{reserved-lawful}

-- the table of the places
abbrev pub places_in : Reserves → List ℕ
places_in s = s.places

-- the places that a layer reserves at a dredger
abbrev pub reserved_at : {C : Type 0} → Reserve C → ℕ → ℕ
reserved_at s v = slice_index (places_in s.reserves) v

-- the reserve part by these places
abbrev pub part_of : {C : Type 0} → Reserve C → Content → Choice
part_of s t = reserved (places_in s.reserves) t.contracts

-- the reserve part of a list as a list of its own, or the refusal of marks that don't fit
abbrev pub Parted : List ℕ → List Contract → List ℕ → Result Marked Unfit → Type 0
Parted places cs marks (Ok m) = (length marks ≡ length cs) × (list_of m ≡ reserved places cs (member marks))
Parted places cs marks (Err e) = number e ≡ asks_marks (length cs) (length marks)

-- a layer of reserves is lawful where the board below is
module _ {C : Type 0} {kept : C → Content → Choice}
    (part : (b : C) (t : Content) → OfDeck t → KeepsPart (length t.contracts) (kept b t))
    (substitutable : (b : C) (t : Content) → OfDeck t → Substitutable (length t.contracts) (kept b t))
    (irrelevant : (b : C) (t : Content) → OfDeck t → Irrelevant (length t.contracts) (kept b t)) where
  pub reserve-lawful : (s : Reserve C) (t : Content) → OfDeck t → Lawful (length t.contracts) (over (part_of s t) (kept s.below t))
  reserve-lawful s t o =
      over-lawful _ _ _ (reserved-lawful _ _) (record { part = part s.below t o; substitutable = substitutable s.below t o; irrelevant = irrelevant s.below t o })
