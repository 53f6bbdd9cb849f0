-- Choice functions over n contracts: the laws of a lawful one, and ways to make one choice of others.
use Rattle.std.specs.Prelude.{◌≡◌, ℕ, Bool, true, false, ◌&&◌, nat_lt}
use Rattle.moves.specs.Bags.{passing}
use Rattle.matching.specs.Sets.{Set, union, common, minus, Part, Within}

-- what is kept of each list
abbrev pub Choice : Type 0
Choice = Set → Set

-- what is kept of a list is a part of it
abbrev pub KeepsPart : ℕ → Choice → Type 0
KeepsPart n kept = (X : Set) → Within n X → Part (kept X) X

-- substitutability: a contract of X that is not kept of X is kept of no list that contains X
abbrev pub Substitutable : ℕ → Choice → Type 0
Substitutable n kept = (X Y : Set) → Within n Y → Part X Y → (k : ℕ) → X k ≡ true → kept X k ≡ false → kept Y k ≡ false

-- irrelevance of rejected contracts: where Y is a part of X and has all that is kept of X, the same is kept of it
abbrev pub Irrelevant : ℕ → Choice → Type 0
Irrelevant n kept = (X Y : Set) → Within n X → Part Y X → Part (kept X) Y → kept Y ≡ kept X

pub record Lawful (n : ℕ) (kept : Choice) : Type 0 where
  pub part : KeepsPart n kept
  pub substitutable : Substitutable n kept
  pub irrelevant : Irrelevant n kept

-- C sees only what is not in B
abbrev pub without : Set → Choice → Choice
without B C X = C (minus X B)

-- what R keeps, with what C keeps of the rest
abbrev pub over : Choice → Choice → Choice
over R C X = union (R X) (C (minus X (R X)))

-- side by side: C sees only the contracts of H, D only the others
abbrev pub beside : Set → Choice → Choice → Choice
beside H C D X = union (C (common X H)) (D (minus X H))

-- how many contracts of X in A come before k, of n contracts
abbrev pub ahead : ℕ → Set → (ℕ → ℕ → Bool) → Set → ℕ → ℕ
ahead n A before X k = passing n (λ j. X j && (A j && before j k))

-- the first few: the contracts of X in A with fewer than r such contracts before them, where r may differ from contract to contract
abbrev pub first : ℕ → Set → (ℕ → ℕ → Bool) → (ℕ → ℕ) → Choice
first n A before r X k = X k && (A k && nat_lt (ahead n A before X k) (r k))

-- a strict order, in which what comes before a contract has the same bound
pub record Strict (before : ℕ → ℕ → Bool) (r : ℕ → ℕ) : Type 0 where
  pub irreflexive : (i : ℕ) → before i i ≡ false
  pub transitive : (i j k : ℕ) → before i j ≡ true → before j k ≡ true → before i k ≡ true
  pub bound : (i j : ℕ) → before i j ≡ true → r i ≡ r j
