-- The way up a tree of 64 groups, in which a parent is an earlier group.
use Rattle.std.specs.Prelude.{◌≡◌, ℕ, zero, suc, ◌+◌, ◌<◌, ◌≤◌, Bool, true, false, cond, ◌&&◌, Some, None, Option, is_none, option_and_then, ◌≢◌, ◌⊎◌, refl}
use Rattle.std.proofs.Common.{sym, ◌∙◌, ap, subst, inl, inr, ⊎_elim, arith}
use Rattle.std.proofs.Math.Nat.{le_of_suc-le-suc, lt_of_lt_of_le, lt_trans}
use Rattle.std.proofs.lemmas.Bool.{cases_Bool, cases_lt, both_ways, cond-true, cond-false}
use Rattle.std.proofs.lemmas.Option.{none-some, same_Some}
use Rattle.quota.specs.Caps.{first_full, stop, upwards}
use Rattle.quota.specs.Rule.{Up, here, there}

pub up_trans : {par : ℕ → Option ℕ} {u v w : ℕ} → Up par u v → Up par v w → Up par u w
up_trans here b = b
up_trans (there e a) b = there e (up_trans a b)

-- down from the last group
pub down : (P : ℕ → Type 0) → ((v : ℕ) → v < 64 → ((c : ℕ) → v < c → c < 64 → P c) → P v) → (v : ℕ) → v < 64 → P v
down P step v l = go 64 v l (omega arith)
  where
    go : (t v : ℕ) → v < 64 → 64 ≤ v + t → P v
    go zero v l h = absurd (omega arith)
    go (suc t) v l h = step v l (λ c a b. go t c b (omega arith))

cases_Option : (o : Option ℕ) → (o ≡ None) ⊎ ((p : ℕ) × (o ≡ Some p))
cases_Option None = inl refl
cases_Option (Some p) = inr (p, refl)

-- u is the first group from v upwards that fails
pub record IsFirst (par : ℕ → Option ℕ) (ok : ℕ → Bool) (v u : ℕ) : Type 0 where
  pub up : Up par v u
  pub fails : ok u ≡ false
  pub before : (w : ℕ) → Up par v w → Up par w u → (w ≢ u) → ok w ≡ true

module _ (par : ℕ → Option ℕ) (ok : ℕ → Bool) where
  no_depth : (v : ℕ) → first_full par ok 0 v ≡ None
  unfolding first_full
  no_depth v = refl

  pub first_full_suc : (t v : ℕ) → first_full par ok (suc t) v ≡ cond (ok v) (option_and_then (λ p. first_full par ok t p) (par v)) (Some v)
  unfolding first_full
  first_full_suc t v = refl

  pub upwards_none : (v : ℕ) → is_none (first_full par ok 0 v) ≡ true
  upwards_none v = ap (λ s. is_none s) (no_depth v)

  pub upwards_suc : (t v : ℕ) → is_none (first_full par ok (suc t) v) ≡ (ok v && is_none (option_and_then (λ p. first_full par ok t p) (par v)))
  upwards_suc t v = ap (λ s. is_none s) (first_full_suc t v) ∙ tested (ok v) (option_and_then (λ p. first_full par ok t p) (par v))
    where
      tested : (b : Bool) (s : Option ℕ) → is_none (cond b s (Some v)) ≡ (b && is_none s)
      tested true s = refl
      tested false s = refl

  fails-here : (t v : ℕ) → ok v ≡ false → first_full par ok (suc t) v ≡ Some v
  fails-here t v o = first_full_suc t v ∙ cond-false _ _ _ o

  at_top : (t v : ℕ) → ok v ≡ true → par v ≡ None → first_full par ok (suc t) v ≡ None
  at_top t v o e = first_full_suc t v ∙ cond-true _ _ _ o ∙ ap (λ q. option_and_then (λ p. first_full par ok t p) q) e

  one_up : (t v p : ℕ) → ok v ≡ true → par v ≡ Some p → first_full par ok (suc t) v ≡ first_full par ok t p
  one_up t v p o e = first_full_suc t v ∙ cond-true _ _ _ o ∙ ap (λ q. option_and_then (λ p. first_full par ok t p) q) e

  none_from : (t v : ℕ) → ((w : ℕ) → Up par v w → ok w ≡ true) → first_full par ok t v ≡ None
  none_from zero v h = no_depth v
  none_from (suc t) v h = ⊎_elim (λ e. at_top t v (h v here) e)
      (λ q. one_up t v q.0 (h v here) q.1 ∙ none_from t q.0 (λ w u. h w (there q.1 u))) (cases_Option (par v))

  pub upwards_from : (t v : ℕ) → ((w : ℕ) → Up par v w → ok w ≡ true) → is_none (first_full par ok t v) ≡ true
  upwards_from t v h = ap (λ s. is_none s) (none_from t v h)

  found : (t v u : ℕ) → first_full par ok t v ≡ Some u → Up par v u × (ok u ≡ false)
  found zero v u s = absurd (none-some u (sym (no_depth v) ∙ s))
  found (suc t) v u s = ⊎_elim
      (λ o. ⊎_elim (λ e. absurd (none-some u (sym (at_top t v o e) ∙ s)))
      (λ q. let f = found t q.0 u (sym (one_up t v q.0 o q.1) ∙ s) in (there q.1 f.0, f.1)) (cases_Option (par v)))
      (λ o. let P : ℕ → Type 0 = λ j. Up par v j × (ok j ≡ false) in subst P (same_Some v u (sym (fails-here t v o) ∙ s)) (here, o)) (cases_Bool (ok v))

  -- at any depth, some group above fails where not all pass
  pub some_fails : (t v : ℕ) → is_none (first_full par ok t v) ≡ false → (u : ℕ) × (first_full par ok t v ≡ Some u) × Up par v u × (ok u ≡ false)
  some_fails t v h = ⊎_elim (λ n. absurd (both_ways _ h (ap (λ s. is_none s) n))) (λ q. let f = found t v q.0 q.1 in (q.0, q.1, f.0, f.1)) (cases_Option (first_full par ok t v))

  pub stop_full : (v : ℕ) → ok v ≡ false → stop par ok v ≡ Some v
  stop_full v o = fails-here 63 v o

  pub stop_top : (v : ℕ) → ok v ≡ true → par v ≡ None → stop par ok v ≡ None
  stop_top v o e = at_top 63 v o e

  -- where the parent of each group below m is an earlier group
  module _ (m : ℕ) (ea : (v p : ℕ) → v < m → par v ≡ Some p → p < v) where
    parent_nearer : (t v p : ℕ) → v < m → v < suc t → par v ≡ Some p → (p < m) × (p < t)
    parent_nearer t v p l h e = let q : p < v = ea v p l e in (lt_trans q l, lt_of_lt_of_le q (le_of_suc-le-suc h))

    -- nobody fails, at any depth that suffices: all groups above pass
    pub none_all : (t v : ℕ) → v < m → v < t → first_full par ok t v ≡ None → (w : ℕ) → Up par v w → ok w ≡ true
    none_all zero v l h n w u = absurd (omega arith)
    none_all (suc t) v l h n w here = ⊎_elim (λ o. o) (λ o. absurd (none-some v (sym n ∙ fails-here t v o))) (cases_Bool (ok v))
    none_all (suc t) v l h n w (there {p} e u) = ⊎_elim
        (λ o. let a = parent_nearer t v p l h e in none_all t p a.0 a.1 (sym (one_up t v p o e) ∙ n) w u)
        (λ o. absurd (none-some v (sym n ∙ fails-here t v o))) (cases_Bool (ok v))

    -- with as much depth as there are groups, one turn more changes nothing
    enough : (t v : ℕ) → v < m → v < t → first_full par ok (suc t) v ≡ first_full par ok t v
    enough zero v l h = absurd (omega arith)
    enough (suc t) v l h = ⊎_elim
        (λ o. ⊎_elim (λ e. at_top (suc t) v o e ∙ sym (at_top t v o e))
        (λ q. let a = parent_nearer t v q.0 l h q.1 in one_up (suc t) v q.0 o q.1 ∙ enough t q.0 a.0 a.1 ∙ sym (one_up t v q.0 o q.1)) (cases_Option (par v)))
        (λ o. fails-here (suc t) v o ∙ sym (fails-here t v o)) (cases_Bool (ok v))

  -- where that of each of the 64 groups is
  module _ (ea : (v p : ℕ) → v < 64 → par v ≡ Some p → p < v) where
    pub stop_up : (v p : ℕ) → v < 64 → ok v ≡ true → par v ≡ Some p → stop par ok v ≡ stop par ok p
    stop_up v p l o e = let a = parent_nearer 64 ea 63 v p l l e in one_up 63 v p o e ∙ sym (enough 64 ea 63 p a.0 a.1)

    -- what holds upwards holds of each group above, from a group of the 64 or one that fails
    pub upwards_all : (v : ℕ) → (64 ≤ v → ok v ≡ false) → upwards par ok v ≡ true → (w : ℕ) → Up par v w → ok w ≡ true
    upwards_all v closed h w u = ⊎_elim
        (λ n. ⊎_elim (λ l. none_all 64 ea 64 v l l n w u) (λ l. absurd (none-some v (sym n ∙ stop_full v (closed l)))) (cases_lt v 64))
        (λ q. absurd (both_ways _ (ap (λ s. is_none s) q.1) h)) (cases_Option (stop par ok v))

  -- where every parent is an earlier group
  module _ (ea : (v p : ℕ) → par v ≡ Some p → p < v) where
    up_le : (v w : ℕ) → Up par v w → w ≤ v
    up_le v w here = omega arith
    up_le v w (there {p} e u) = let a : w ≤ p = up_le p w u in let b : p < v = ea v p e in omega arith

    passed : (t v u : ℕ) → first_full par ok t v ≡ Some u → (w : ℕ) → Up par v w → Up par w u → (w ≢ u) → ok w ≡ true
    passed zero v u s w a b ne = absurd (none-some u (sym (no_depth v) ∙ s))
    passed (suc t) v u s w here b ne = ⊎_elim (λ o. o) (λ o. absurd (ne (same_Some v u (sym (fails-here t v o) ∙ s)))) (cases_Bool (ok v))
    passed (suc t) v u s w (there {p} d a) b ne = ⊎_elim
        (λ o. passed t p u (sym (one_up t v p o d) ∙ s) w a b ne)
        (λ o. let e : v ≡ u = same_Some v u (sym (fails-here t v o) ∙ s) in absurd (ne (let f = up_le v w (there d a) in let g = up_le w u b in omega arith))) (cases_Bool (ok v))

    pub upwards_fails : (v : ℕ) → upwards par ok v ≡ false → (u : ℕ) × (stop par ok v ≡ Some u) × IsFirst par ok v u
    upwards_fails v h = let f = some_fails 64 v h in (f.0, f.1, record { up = f.2; fails = f.3; before = passed 64 v f.0 f.1 })
