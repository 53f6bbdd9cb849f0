-- How a line moves: who stands where in it after one joins or one is taken.
use Rattle.std.specs.Prelude.{◌≡◌, ℕ, List, [], ◌∷◌}
use Rattle.std.specs.List.Sorted.{IsPermutation}

-- those in the line before, one trainee, and those in the line after
abbrev pub Move : Type 1
Move = List ℕ → ℕ → List ℕ → Type 0

-- just t joins, in the line's own manner; a bag is a list up to its order
pub record Joins (manner : Move) (xs : List ℕ) (t : ℕ) (ys : List ℕ) : Type 0 where
  pub bag : IsPermutation (t ∷ xs) ys
  pub order : manner xs t ys

-- just t is taken, in the line's own manner
pub record Takes (manner : Move) (xs : List ℕ) (t : ℕ) (ys : List ℕ) : Type 0 where
  pub bag : IsPermutation xs (t ∷ ys)
  pub order : manner xs t ys

-- those of ts join one after another
abbrev pub AllJoin : Move → List ℕ → List ℕ → List ℕ → Type 0
AllJoin manner xs [] ys = ys ≡ xs
AllJoin manner xs (t ∷ ts) ys = (m : List ℕ) × Joins manner xs t m × AllJoin manner m ts ys

-- the manner of a line that says no more than the bag
abbrev pub any : Move
any xs t ys = Unit {0}
