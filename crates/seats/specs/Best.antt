-- What one seat takes, said without counting.
use Rattle.std.specs.Prelude.{◌≡◌, ℕ, true, List, All, length, ◌≢◌}
use Rattle.rules.specs.declared.table.Contract.{Contract}
use Rattle.rules.specs.declared.table.Seat.{Seat}
use Rattle.rules.specs.Contents.{contract_at, rule_by}
use Rattle.matching.specs.Sets.{Set, Within}
use Rattle.seats.specs.Taking.{before, takes}

-- k is in X and at the seat's dredger, and every other contract of X at that dredger comes after it by the seat's rule
pub record Best (s : Seat) (cs : List Contract) (X : Set) (k : ℕ) : Type 0 where
  pub listed : X k ≡ true
  pub there : (contract_at cs k).dredger ≡ s.dredger
  pub others : (j : ℕ) → X j ≡ true → (contract_at cs j).dredger ≡ s.dredger → (j ≢ k) → before cs (rule_by s) k j ≡ true

-- a seat takes the best contract of every list, and nothing else
pub record Follows (s : Seat) : Type 0 where
  pub best : (cs : List Contract) (X : Set) → Within (length cs) X → (k : ℕ) → takes s cs X k ≡ true → Best s cs X k
  pub taken : (cs : List Contract) (X : Set) → Within (length cs) X → (k : ℕ) → Best s cs X k → takes s cs X k ≡ true

-- each of the seats does
abbrev pub AllFollow : List Seat → Type 0
AllFollow ss = All Follows ss
