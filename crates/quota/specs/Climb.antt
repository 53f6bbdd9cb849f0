-- How one contract more is counted in the sums of its group and of the groups above.
use Rattle.std.specs.Prelude.{◌≡◌, ℕ, ◌+◌, ◌<◌, min, Bool, cond, List, replicate, Option, ◌==◌, nat_lt, slice_index, slice_set}
use Rattle.quota.specs.declared.row.Row.{Row}
use Rattle.quota.specs.declared.sums.Sums.{Sums}
use Rattle.quota.specs.Caps.{parent_of, cap_of, kids, stop}

abbrev pub no_sums : Sums
no_sums = record { dredger = 0; counts = replicate 64 0 }

-- the sum of group v, and whether it is below its cap
abbrev pub sum_of : Sums → ℕ → ℕ
sum_of s v = slice_index s.counts v

abbrev pub below_cap : List Row → Sums → ℕ → Bool
below_cap rows s v = nat_lt (sum_of s v) (cap_of rows v)

-- with one more in group v
abbrev pub with_one : Sums → ℕ → Sums
with_one s v = record { dredger = s.dredger; counts = slice_set s.counts v (sum_of s v + 1) }

-- the sums with which a contract of dredger d is met: at another dredger they begin again
abbrev pub turned : Sums → ℕ → Sums
turned s d = record { dredger = d; counts = cond (s.dredger == d) s.counts (replicate 64 0) }

-- these are the sums where `own v` contracts are directly in each group v
abbrev pub Filled : List Row → (ℕ → ℕ) → (ℕ → ℕ) → Type 0
Filled rows S own = (v : ℕ) → v < 64 → S v ≡ min (cap_of rows v) (kids (parent_of rows) S v + own v)

-- one contract more directly in g
abbrev pub one_more : (ℕ → ℕ) → ℕ → ℕ → ℕ
one_more own g v = own v + cond (g == v) 1 0

-- `climb` from g: the group that was full, if there was one, by the sums before; and the sums with one contract more
pub record Climbed (rows : List Row) (s : Sums) (g : ℕ) (s' : Sums) (r : Option ℕ) : Type 0 where
  pub answer : r ≡ stop (parent_of rows) (below_cap rows s) g
  pub dredger : s'.dredger ≡ s.dredger
  pub counted : (own : ℕ → ℕ) → Filled rows (sum_of s) own → Filled rows (sum_of s') (one_more own g)
