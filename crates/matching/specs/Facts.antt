-- What is shown once of all choice functions, and of all markets.
use Rattle.std.specs.Prelude.{◌≡◌, ℕ, Bool, true, false}
use Rattle.matching.specs.Sets.{Set, union, less, Within}
use Rattle.matching.specs.Choices.{Choice, KeepsPart, Irrelevant, Lawful, Strict, without, over, beside, first}
use Rattle.matching.specs.Market.{Market, Known, Best}

-- choosing twice is choosing once
abbrev pub Settled : Type 0
Settled = (n : ℕ) (kept : Choice) → Lawful n kept → (X : Set) → Within n X → kept (kept X) ≡ kept X

-- path independence: what is kept of two lists joined is what is kept of their shortlists joined
abbrev pub PathIndependent : Type 0
PathIndependent = (n : ℕ) (kept : Choice) → Lawful n kept → (X Y : Set) → Within n X → Within n Y →
    kept (union X Y) ≡ kept (union (kept X) (kept Y))

-- where one unkept contract can be removed and nothing changes, so can any number of them
abbrev pub OneRemoved : Type 0
OneRemoved = (n : ℕ) (kept : Choice) → KeepsPart n kept →
    ((X : Set) → Within n X → (z : ℕ) → X z ≡ true → kept X z ≡ false → kept (less X z) ≡ kept X) → Irrelevant n kept

-- a board on fewer contracts
abbrev pub WithoutLawful : Type 0
WithoutLawful = (n : ℕ) (B : Set) (C : Choice) → Lawful n C → Lawful n (without B C)

-- R, then the board below on the rest
abbrev pub OverLawful : Type 0
OverLawful = (n : ℕ) (R C : Choice) → Lawful n R → Lawful n C → Lawful n (over R C)

-- two boards side by side
abbrev pub BesideLawful : Type 0
BesideLawful = (n : ℕ) (H : Set) (C D : Choice) → Lawful n C → Lawful n D → Lawful n (beside H C D)

-- the first r by any order
abbrev pub FirstLawful : Type 0
FirstLawful = (n : ℕ) (A : Set) (before : ℕ → ℕ → Bool) (r : ℕ → ℕ) → Strict before r → Lawful n (first n A before r)

-- there is at most one best list
abbrev pub OneBest : Type 0
OneBest = (M : Market) → Known M → (kept : Choice) (A B : Set) → Best M kept A → Best M kept B → A ≡ B
