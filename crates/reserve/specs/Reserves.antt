-- Reserved places: how many a dredger has, and who takes them.
use Rattle.std.specs.Prelude.{◌≡◌, ℕ, ◌<◌, Bool, cond, ◌&&◌, List, [], ◌∷◌, length, ◌==◌, ◌≢◌, nat_lt, slice_index}
use Rattle.rules.specs.declared.table.Contract.{Contract}
use Rattle.rules.specs.declared.table.Reservation.{Reservation}
use Rattle.rules.specs.Contents.{contract_at, reserve_at}
use Rattle.matching.specs.Sets.{Set, less, minus}
use Rattle.matching.specs.Choices.{Choice, first}
use Rattle.ranking.specs.Rank.{above}

-- the contracts with flag 1
abbrev pub flagged : List Contract → Set
flagged cs k = (contract_at cs k).flag

-- the places that are reserved at a contract's dredger
abbrev pub reserve : List ℕ → List Contract → ℕ → ℕ
reserve places cs k = slice_index places (contract_at cs k).dredger

-- the reserve part of a list: the flagged contracts that have fewer such contracts of their dredger above them than it has reserved places
abbrev pub reserved : List ℕ → List Contract → Choice
reserved places cs = first (length cs) (flagged cs) (above cs) (reserve places cs)

-- what the board below says of the list without the reserve part
abbrev pub reserve_reason : Choice → (Set → ℕ → ℕ × ℕ) → Set → ℕ → ℕ × ℕ
reserve_reason R reason X k = reason (minus X (R X)) k

-- the places that a deck's entries give a dredger, 0 where they give none
abbrev pub seats_for : List Reservation → ℕ → ℕ
seats_for [] v = 0
seats_for (x ∷ xs) v = cond (x.dredger == v) x.seats (seats_for xs v)

-- a table has the places that the first n entries give
pub record Reserving (rs : List Reservation) (n : ℕ) (places : List ℕ) : Type 0 where
  pub given : (i : ℕ) → i < n → slice_index places (reserve_at rs i).dredger ≡ (reserve_at rs i).seats
  pub none : (v : ℕ) → ((i : ℕ) → i < n → (reserve_at rs i).dredger ≢ v) → slice_index places v ≡ 0

-- a contract that may take a reserved place
abbrev pub entitled : List ℕ → Contract → Bool
entitled places c = c.flag && nat_lt 0 (slice_index places c.dredger)

-- the contracts that may
abbrev pub entitled_of : List ℕ → List Contract → Set
entitled_of places cs k = entitled places (contract_at cs k)

-- is a place left at the contract's dredger, after those that were seen there?
abbrev pub has_room : List ℕ → List ℕ → List Contract → ℕ → Bool
has_room places seen cs k = nat_lt (slice_index seen (contract_at cs k).dredger) (reserve places cs k)

-- the list itself where there is room for contract k, else without it
abbrev pub left : Bool → Set → ℕ → Set
left room X k = cond room X (less X k)
