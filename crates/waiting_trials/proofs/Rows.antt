-- A list of numbers, as a bag.
use Rattle.std.proofs.Common.{◌≡◌, ℕ, ◌<◌, List, [], ◌∷◌, ◌++◌, length, get_or}
use Rattle.std.specs.List.{remove}
use Rattle.std.proofs.lemmas.List.Sorted.{IsPermutation-remove, IsPermutation-sym, IsPermutation-to_front}
use Rattle.moves.specs.Moves.{Joins, Takes, any}

pub joins_last : (xs : List ℕ) (t : ℕ) → Joins any xs t (xs ++ t ∷ [])
joins_last xs t = record { bag = IsPermutation-sym _ _ (IsPermutation-to_front xs t); order = tt }

pub takes_one : (xs : List ℕ) (i t : ℕ) → i < length xs → t ≡ get_or xs i t → Takes any xs t (remove xs i)
takes_one xs i t lt e = record { bag = IsPermutation-remove xs i t lt e; order = tt }
