-- The rule of the quota board with no bound of depth, for a reader to check the definitions by.
use Rattle.std.specs.Prelude.{◌≡◌, ℕ, ◌+◌, ◌<◌, ◌≤◌, min, true, false, List, Some, Option, ◌≢◌}
use Rattle.rules.specs.declared.table.Contract.{Contract}
use Rattle.rules.specs.Contents.{contract_at}
use Rattle.matching.specs.Sets.{Set}
use Rattle.quota.specs.declared.row.Row.{Row}
use Rattle.quota.specs.Caps.{parent_of, cap_of, kids, directly, F, quota, quota_reason}

-- w is v or above it
pub data Up (par : ℕ → Option ℕ) : ℕ → ℕ → Type 0 where
  here : {v : ℕ} → Up par v v
  there : {v p w : ℕ} → par v ≡ Some p → Up par p w → Up par v w

-- v is the first group upwards from k's own that has no place for k
pub record Stops (rows : List Row) (cs : List Contract) (X : Set) (k v : ℕ) : Type 0 where
  pub up : Up (parent_of rows) (contract_at cs k).group v
  pub full : cap_of rows v ≤ F rows cs v X k
  pub first : (w : ℕ) → Up (parent_of rows) (contract_at cs k).group w → Up (parent_of rows) w v → (w ≢ v) → F rows cs w X k < cap_of rows w

pub record Rule (rows : List Row) (cs : List Contract) : Type 0 where
  -- the smaller of the cap of v and the sum over the groups whose parent is v, plus the contracts directly in v that rank above k
  pub filled : (X : Set) (k v : ℕ) → v < 64 → F rows cs v X k ≡ min (cap_of rows v) (kids (parent_of rows) (λ c. F rows cs c X k) v + directly cs X k v)
  -- k is kept exactly when it is in X and its group, and every group above it, has a place
  pub kept : (X : Set) (k : ℕ) → quota rows cs X k ≡ true →
      (X k ≡ true) × ((v : ℕ) → Up (parent_of rows) (contract_at cs k).group v → F rows cs v X k < cap_of rows v)
  pub keeps : (X : Set) (k : ℕ) → X k ≡ true →
      ((v : ℕ) → Up (parent_of rows) (contract_at cs k).group v → F rows cs v X k < cap_of rows v) → quota rows cs X k ≡ true
  -- else the first group that has none is named
  pub stopped : (X : Set) (k : ℕ) → X k ≡ true → quota rows cs X k ≡ false → (v : ℕ) × (quota_reason rows cs X k ≡ (2, v)) × Stops rows cs X k v
