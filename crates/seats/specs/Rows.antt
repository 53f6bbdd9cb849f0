-- The contracts of a list in a row, and what of them is left.
use Rattle.std.specs.Prelude.{◌≡◌, ℕ, ◌<◌, ◌≤◌, true, false, List, length, Some, None, Option, slice_index, slice_index_or}
use Rattle.rules.specs.declared.table.Contract.{Contract}
use Rattle.rules.specs.declared.table.Rule.{Rule}
use Rattle.rules.specs.Contents.{contract_at}
use Rattle.matching.specs.Sets.{Set}
use Rattle.ranking.specs.Rows.{precedes}

-- the contract at place i of a row
abbrev pub nth : List ℕ → ℕ → ℕ
nth row i = slice_index row i

-- its dredger
abbrev pub dredger_at : List Contract → List ℕ → ℕ → ℕ
dredger_at cs row i = (contract_at cs (nth row i)).dredger

-- a row has all contracts of R, one dredger after the other and within each by the rule
pub record Holds (rule : Rule) (cs : List Contract) (R : Set) (row : List ℕ) : Type 0 where
  pub few : length row ≤ 2048
  pub known : (i : ℕ) → i < length row → nth row i < length cs
  pub sorted : (i j : ℕ) → i < j → j < length row → precedes rule cs (nth row i) (nth row j) ≡ true
  pub all : (k : ℕ) → R k ≡ true → (i : ℕ) × (i < length row) × (nth row i ≡ k)

-- a row names contracts, one dredger after the other
pub record Rises (cs : List Contract) (row : List ℕ) : Type 0 where
  pub few : length row ≤ 2048
  pub known : (i : ℕ) → i < length row → nth row i < length cs
  pub rising : (i j : ℕ) → i < j → j < length row → dredger_at cs row i ≤ dredger_at cs row j

-- in the first p places of a row no contract of R is at dredger g
abbrev pub Passed : List Contract → Set → List ℕ → ℕ → ℕ → Type 0
Passed cs R row p g = (i : ℕ) → i < p → dredger_at cs row i ≡ g → R (nth row i) ≡ false

-- a place of the first m that is at dredger g, before which no contract of R is; none, if there is no such contract in all m
abbrev pub Opens : List Contract → Set → List ℕ → ℕ → ℕ → Option ℕ → Type 0
Opens cs R row m g None = Passed cs R row m g
Opens cs R row m g (Some p) = (p < m) × (dredger_at cs row p ≡ g) × Passed cs R row p g

-- where the contracts of R may begin at each dredger, in the first m places of a row
pub record Points (cs : List Contract) (R : Set) (row : List ℕ) (m : ℕ) (next : List (Option ℕ)) : Type 0 where
  pub wide : length next ≡ 256
  pub opens : (g : ℕ) → g < 256 → Opens cs R row m g (slice_index_or next g None)

-- the first place of a contract of R at dredger g, if there is one
abbrev pub IsFirst : List Contract → Set → List ℕ → ℕ → Option ℕ → Type 0
IsFirst cs R row g None = Passed cs R row (length row) g
IsFirst cs R row g (Some p) = (p < length row) × (dredger_at cs row p ≡ g) × Passed cs R row p g × (R (nth row p) ≡ true)
