-- Lists of contracts, each by the test whether a number is in it.
use Rattle.std.specs.Prelude.{◌≡◌, ℕ, zero, suc, ◌<◌, Bool, true, false, cond, not, ◌&&◌, ◌||◌, List, [], ◌∷◌, ◌++◌, ◌==◌}

abbrev pub Set : Type 0
Set = ℕ → Bool

abbrev pub none : Set
none k = false

-- X with k
abbrev pub add : Set → ℕ → Set
add X k j = j == k || X j

-- X joined with Y
abbrev pub union : Set → Set → Set
union X Y j = X j || Y j

-- what X and Y share
abbrev pub common : Set → Set → Set
common X Y j = X j && Y j

-- X without Y
abbrev pub minus : Set → Set → Set
minus X Y j = X j && not (Y j)

-- X without the one contract z
abbrev pub less : Set → ℕ → Set
less X z j = X j && not (j == z)

-- X is a part of Y
abbrev pub Part : Set → Set → Type 0
Part X Y = (k : ℕ) → X k ≡ true → Y k ≡ true

-- X is a list of contracts numbered below n
abbrev pub Within : ℕ → Set → Type 0
Within n X = (k : ℕ) → X k ≡ true → k < n

-- the numbers of X below n, in rising order
abbrev pub rising : ℕ → Set → List ℕ
rising zero X = []
rising (suc n) X = rising n X ++ cond (X n) (n ∷ []) []
