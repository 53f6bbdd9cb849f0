-- Sums over the 64 groups.
use Rattle.std.specs.Prelude.{◌≡◌, ℕ, ◌+◌, ◌<◌, ◌≤◌, true, false, Bool, cond, Some, None, Option, ◌≢◌, refl}
use Rattle.std.proofs.Common.{ap, arith}
use Rattle.std.proofs.lemmas.Bool.{false≢true, eqb-true}
use Rattle.moves.proofs.Bags.{total_same}
use Rattle.matching.proofs.Sums.{total_le, total_bump}
use Rattle.quota.specs.Caps.{across, is_parent, kids}

pub across_le : (g h : ℕ → ℕ) → ((c : ℕ) → c < 64 → g c ≤ h c) → across g ≤ across h
unfolding across
across_le g h w = total_le 64 g h w

pub across_same : (g h : ℕ → ℕ) → ((c : ℕ) → c < 64 → g c ≡ h c) → across g ≡ across h
unfolding across
across_same g h w = total_same 64 g h w

pub across_bump : (g h : ℕ → ℕ) (z x : ℕ) → z < 64 → h z ≡ g z + x → ((c : ℕ) → c < 64 → (c ≢ z) → h c ≡ g c) → across h ≡ across g + x
unfolding across
across_bump g h z x l e o = total_bump 64 g h z x l e o

pub across_none : (g : ℕ → ℕ) → ((c : ℕ) → c < 64 → g c ≡ 0) → across g ≡ 0
unfolding across
across_none g h = total_same 64 g (λ c. 0) h

pub is_parent-true : (o : Option ℕ) (v : ℕ) → is_parent o v ≡ true → o ≡ Some v
is_parent-true None v e = absurd (false≢true e)
is_parent-true (Some p) v e = ap Some (eqb-true p v e)

cond_le : (b : Bool) (x y : ℕ) → (b ≡ true → x ≤ y) → cond b x 0 ≤ cond b y 0
cond_le true x y h = h refl
cond_le false x y h = omega arith

cond_same : (b : Bool) (x y : ℕ) → (b ≡ true → x ≡ y) → cond b x 0 ≡ cond b y 0
cond_same true x y h = h refl
cond_same false x y h = refl

-- only the groups whose parent is v count, and the parent of one of the 64 groups is an earlier group
module _ (par : ℕ → Option ℕ) (ea : (v p : ℕ) → v < 64 → par v ≡ Some p → p < v) where
  pub child : (c v : ℕ) → c < 64 → is_parent (par c) v ≡ true → v < c
  child c v l e = ea c v l (is_parent-true (par c) v e)

  module _ (f g : ℕ → ℕ) (v : ℕ) where
    pub kids_le : ((c : ℕ) → v < c → c < 64 → f c ≤ g c) → kids par f v ≤ kids par g v
    kids_le h = across_le (λ c. cond (is_parent (par c) v) (f c) 0) (λ c. cond (is_parent (par c) v) (g c) 0)
        (λ c l. cond_le (is_parent (par c) v) (f c) (g c) (λ e. h c (child c v l e) l))

    pub kids_same : ((c : ℕ) → par c ≡ Some v → v < c → c < 64 → f c ≡ g c) → kids par f v ≡ kids par g v
    kids_same h = across_same (λ c. cond (is_parent (par c) v) (f c) 0) (λ c. cond (is_parent (par c) v) (g c) 0)
        (λ c l. cond_same (is_parent (par c) v) (f c) (g c) (λ e. h c (is_parent-true (par c) v e) (child c v l e) l))
