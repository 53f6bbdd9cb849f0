-- A lineup of what is left of a list, and what it gives.
use Rattle.std.specs.Prelude.{◌≡◌, ℕ, ◌<◌, false, length, Some, None, Option, ◌==◌}
use Rattle.rules.specs.declared.table.Rule.{Rule}
use Rattle.rules.specs.declared.table.Seat.{Seat}
use Rattle.matching.specs.Sets.{Set}
use Rattle.board.specs.declared.marked.Marked.{Marked}
use Rattle.board.specs.Marked.{contracts_of, list_of}
use Rattle.seats.specs.declared.lineup.Lineup.{Lineup}
use Rattle.seats.specs.Rows.{Holds, IsFirst, Opens, Points}
use Rattle.seats.specs.Taking.{takes}

-- a lineup has what is left, and where to look for it
pub record Ready (rule : Rule) (rest : Marked) (l : Lineup) : Type 0 where
  pub holds : Holds rule (contracts_of rest) (list_of rest) l.numbers.items
  pub points : Points (contracts_of rest) (list_of rest) l.numbers.items (length l.numbers.items) l.next

-- where in a lineup what is left at dredger g may begin
abbrev pub MayBegin : Marked → Lineup → ℕ → Option ℕ → Type 0
MayBegin rest l g o = Opens (contracts_of rest) (list_of rest) l.numbers.items (length l.numbers.items) g o

-- where it begins
abbrev pub Begins : Marked → Lineup → ℕ → Option ℕ → Type 0
Begins rest l g o = IsFirst (contracts_of rest) (list_of rest) l.numbers.items g o

-- a set with one contract of n, or with none
abbrev pub Is : ℕ → Set → Option ℕ → Type 0
Is n Z None = (j : ℕ) → Z j ≡ false
Is n Z (Some k) = (k < n) × ((j : ℕ) → Z j ≡ (j == k))

-- what a seat takes of what is left
abbrev pub Takes : Seat → Marked → Option ℕ → Type 0
Takes s rest o = Is (length (contracts_of rest)) (takes s (contracts_of rest) (list_of rest)) o
