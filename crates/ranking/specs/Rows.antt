-- The contracts of a list in a row: one dredger after the other, and within each by a rule.
use Rattle.std.specs.Prelude.{◌≡◌, ℕ, ◌<◌, ◌≤◌, Bool, true, ◌&&◌, ◌||◌, List, length, take, Ok, Err, Result, nat_lt, slice_index}
use Rattle.std.specs.List.Sorted.{IsPermutation}
use Rattle.rules.specs.declared.table.Contract.{Contract}
use Rattle.rules.specs.declared.table.Rule.{Rule}
use Rattle.rules.specs.Contents.{contract_at}
use Rattle.matching.specs.Sets.{Set, rising}
use Rattle.board.specs.declared.unfit.Unfit.{Unfit}
use Rattle.board.specs.Marks.{member}
use Rattle.board.specs.Refusals.{number, asks_marks}
use Rattle.ranking.specs.Rank.{together, prefers}

-- contract i comes before contract j in the row
abbrev pub precedes : Rule → List Contract → ℕ → ℕ → Bool
precedes rule cs i j =
    nat_lt (contract_at cs i).dredger (contract_at cs j).dredger || (together cs i j && prefers rule (contract_at cs i) (contract_at cs j) i j)

-- just the contracts of X, each once, in this order
pub record Ordered (rule : Rule) (cs : List Contract) (X : Set) (ns : List ℕ) : Type 0 where
  pub same : IsPermutation (rising (length cs) X) ns
  pub sorted : (i j : ℕ) → i < j → j < length ns → precedes rule cs (slice_index ns i) (slice_index ns j) ≡ true

-- a row of the contracts of X, of at most so many as a deck has
pub record InRow (rule : Rule) (cs : List Contract) (X : Set) (row : List ℕ) : Type 0 where
  pub few : length row ≤ 2048
  pub ordered : Ordered rule cs X row

-- the first m of a row
pub record Front (rule : Rule) (cs : List Contract) (X : Set) (row : List ℕ) (m : ℕ) : Type 0 where
  pub few : m ≤ 2048
  pub counted : length (take m row) ≡ m
  pub ordered : Ordered rule cs X (take m row)

-- `line_up`: how many stand in the row, or 31, and the row stays
abbrev pub Lined : Rule → List Contract → List ℕ → List ℕ → List ℕ → Result ℕ Unfit → Type 0
Lined rule cs marks row row' (Ok m) = (length marks ≡ length cs) × Front rule cs (member marks) row' m
Lined rule cs marks row row' (Err e) = (number e ≡ asks_marks (length cs) (length marks)) × (row' ≡ row)
