use Rattle.std.proofs.Common.{◌≡◌, ℕ, zero, suc, ◌+◌, ◌-◌, ◌<◌, ◌≤◌, ◌≢◌, List, [], ◌∷◌, ◌++◌, length, get_or, take, drop, set, sym, refl, ap, ◌∙◌, inl, inr, ⊎_elim, arith, length-append, length-drop, length-set, length-take}
use Rattle.std.proofs.lemmas.List.{same_lists, get_or_append_left, get_or-append_right, get_or-take, get_or-drop, get_or-set_same, get_or-set_other, get_or_push, get_or_default, length_push, take_more}
use Rattle.std.proofs.lemmas.Bool.{cases_eq, cases_lt}
use Rattle.strip.specs.Ring.{ringed, Ringed, Spot, held_of, row_of}
use Rattle.strip.specs.Rows.{as_row, holding}

pub spot_of : (n h k : ℕ) → h ≤ n → k < n → (at : ℕ) × Spot n h k at
spot_of n h k p q = ⊎_elim
    (λ (lt : h + k < n). (h + k, (lt, inl refl)))
    (λ (le : n ≤ h + k). ((h + k) - n, (omega arith, inr (omega arith))))
    (cases_lt (h + k) n)

pub spots_apart : (n h k j a b : ℕ) → k < n → j < n → Spot n h k a → Spot n h j b → (k ≡ j → ⊥) → a ≡ b → ⊥
spots_apart n h k j a b p q s t ne e = ⊎_elim
    (λ u. ⊎_elim (λ v. ne (omega arith)) (λ v. omega (arith, s.0, t.0)) t.1)
    (λ u. ⊎_elim (λ v. omega (arith, s.0, t.0)) (λ v. ne (omega arith)) t.1)
    s.1

module _ {X : Type 0} where
  pub length_ringed : (m : List X) (h n : ℕ) → h ≤ length m → n ≤ length m → length (ringed m h n) ≡ n
  unfolding ringed
  length_ringed m h n p q = simp (length-take, length-drop, length-append) (omega arith)

  -- the k-th element of the ring
  pub get_or-ringed : (m : List X) (h n k at : ℕ) (d : X) → h ≤ length m → n ≤ length m → k < n → Spot (length m) h k at → get_or (ringed m h n) k d ≡ get_or m at d
  unfolding ringed
  get_or-ringed m h n k at d p q r s =
      get_or-take n (drop h (m ++ m)) k d r ∙ get_or-drop h (m ++ m) k d
      ∙ ⊎_elim
      (λ e. let lt : h + k < length m = omega arith in get_or_append_left m m d (h + k) lt ∙ ap (λ i. get_or m i d) (sym e))
      (λ e. let le : length m ≤ h + k = omega arith in get_or-append_right m m (length m) (h + k) d refl le ∙ ap (λ i. get_or m i d) (omega arith))
      s.1

  pub ringed_none : (m : List X) (h n : ℕ) → n ≡ 0 → ringed m h n ≡ []
  unfolding ringed
  ringed_none m h n e = rw e refl

  pub ringed_put : (m : List X) (h n at : ℕ) (x : X) → h ≤ length m → n < length m → Spot (length m) h n at → ringed (set m at x) h (n + 1) ≡ ringed m h n ++ x ∷ []
  ringed_put m h n at x p q s =
      let ls : length (set m at x) ≡ length m = length-set m at x in
      let p' : h ≤ length (set m at x) = omega arith in
      let q' : n + 1 ≤ length (set m at x) = omega arith in
      let q'' : n ≤ length m = omega arith in
      let l1 : length (ringed (set m at x) h (n + 1)) ≡ n + 1 = length_ringed (set m at x) h (n + 1) p' q' in
      let l2 : length (ringed m h n) ≡ n = length_ringed m h n p q'' in
      same_lists _ _ (l1 ∙ sym (length_push (ringed m h n) x ∙ ap (λ i. i + 1) l2))
      (λ k d lt. ⊎_elim
      (λ (e : k ≡ n).
      let s' : Spot (length (set m at x)) h k at = (omega arith, ⊎_elim (λ a. inl (omega arith)) (λ b. inr (omega arith)) s.1) in
      get_or-ringed (set m at x) h (n + 1) k at d p' q' (omega arith) s'
      ∙ get_or-set_same m at x d s.0 ∙ sym (get_or_push (ringed m h n) x d k (omega arith)))
      (λ (ne : k ≡ n → ⊥).
      let kn : k < n = omega arith in
      let i = spot_of (length m) h k p (omega arith) in
      let s' : Spot (length (set m at x)) h k i.0 = (omega (arith, i.1.0), ⊎_elim (λ a. inl a) (λ b. inr (omega arith)) i.1.1) in
      let apart : i.0 ≢ at = spots_apart (length m) h k n i.0 at (omega arith) q i.1 s ne in
      get_or-ringed (set m at x) h (n + 1) k i.0 d p' q' (omega arith) s'
      ∙ get_or-set_other m at i.0 x d apart
      ∙ sym (get_or_append_left (ringed m h n) (x ∷ []) d k (omega arith) ∙ get_or-ringed m h n k i.0 d p q'' kn i.1))
      (cases_eq k n))

  pub ringed_last : (m : List X) (h n at : ℕ) (d : X) → h ≤ length m → n < length m → Spot (length m) h n at → ringed m h (n + 1) ≡ ringed m h n ++ get_or m at d ∷ []
  unfolding ringed
  ringed_last m h n at d p q s =
      let lt : n < length (drop h (m ++ m)) = simp (length-drop, length-append) (omega arith) in
      take_more (drop h (m ++ m)) n d lt
      ∙ ap (λ y. take n (drop h (m ++ m)) ++ y ∷ []) (sym (get_or-take (n + 1) (drop h (m ++ m)) n d (omega arith)) ∙ get_or-ringed m h (n + 1) n at d p (omega arith) (omega arith) s)

  first_at : (m : List X) (h n at : ℕ) (e : X) → h ≤ length m → n < length m → Spot (length m) h 0 at → (k : ℕ) (d : X) → k < n + 1 → get_or (ringed m h (n + 1)) k d ≡ get_or (get_or m at e ∷ ringed m (at + 1) n) k d
  first_at m h n at e p q s zero d lt = get_or-ringed m h (n + 1) 0 at d p (omega arith) (omega arith) s ∙ get_or_default m at d e s.0
  first_at m h n at e p q s (suc k) d lt =
      let i = spot_of (length m) h (suc k) p (omega arith) in
      let s' : Spot (length m) (at + 1) k i.0 = (
        i.1.0,
        ⊎_elim
            (λ a. ⊎_elim (λ u. inl (omega arith)) (λ u. absurd (omega (arith, i.1.0, s.0))) s.1)
            (λ b. ⊎_elim (λ u. inr (omega arith)) (λ u. inl (omega arith)) s.1)
            i.1.1,
      ) in
      get_or-ringed m h (n + 1) (suc k) i.0 d p (omega arith) (omega arith) i.1
      ∙ sym (get_or-ringed m (at + 1) n k i.0 d (omega (arith, s.0)) (omega arith) (omega arith) s')

  pub ringed_first : (m : List X) (h n at : ℕ) (d : X) → h ≤ length m → n < length m → Spot (length m) h 0 at → ringed m h (n + 1) ≡ get_or m at d ∷ ringed m (at + 1) n
  ringed_first m h n at d p q s =
      let l1 : length (ringed m h (n + 1)) ≡ n + 1 = length_ringed m h (n + 1) p (omega arith) in
      let l2 : length (ringed m (at + 1) n) ≡ n = length_ringed m (at + 1) n (omega (arith, s.0)) (omega arith) in
      same_lists _ _ (omega arith) (λ k e lt. first_at m h n at d p q s k e (omega arith))

  pub count_ringed : (m : List X) (h n : ℕ) → Ringed m h n → length (ringed m h n) ≡ n
  count_ringed m h n r = length_ringed m h n r.head_inside r.count_inside

  pub row_item : (m : List X) (h n k at : ℕ) (d : X) → Ringed m h n → k < n → Spot (length m) h k at → get_or m at d ≡ get_or (ringed m h n) k d
  row_item m h n k at d r lt s = sym (get_or-ringed m h n k at d r.head_inside r.count_inside lt s)

  pub row_put : (m : List X) (h n at : ℕ) (x : X) → Ringed m h n → n < length m → Spot (length m) h n at → row_of (set m at x) h (n + 1) ≡ holding (row_of m h n) (ringed m h n ++ x ∷ [])
  row_put m h n at x r lt s = rw (length-set m at x, ringed_put m h n at x r.head_inside lt s) refl

  pub row_newest : (m : List X) (h n at : ℕ) (d : X) → Ringed m h n → (n ≡ 0 → ⊥) → Spot (length m) h (n - 1) at → row_of m h n ≡ holding (row_of m h (n - 1)) (ringed m h (n - 1) ++ get_or m at d ∷ [])
  row_newest m h n at d r ne s =
      let e : n ≡ n - 1 + 1 = omega arith in
      let lt : n - 1 < length m = omega (arith, r.count_inside) in
      ap (λ xs. record { items = xs; places = length m }) (ap (λ i. ringed m h i) e ∙ ringed_last m h (n - 1) at d r.head_inside lt s)

  pub row_oldest : (m : List X) (h n at : ℕ) (d : X) → Ringed m h n → (n ≡ 0 → ⊥) → Spot (length m) h 0 at → row_of m h n ≡ holding (row_of m (at + 1) (n - 1)) (get_or m at d ∷ ringed m (at + 1) (n - 1))
  row_oldest m h n at d r ne s =
      let e : n ≡ n - 1 + 1 = omega arith in
      let lt : n - 1 < length m = omega (arith, r.count_inside) in
      ap (λ xs. record { items = xs; places = length m }) (ap (λ i. ringed m h i) e ∙ ringed_first m h (n - 1) at d r.head_inside lt s)

  pub held_row : (m : List X) (h n : ℕ) → Ringed m h n → as_row (held_of m h n) ≡ row_of m h n
  held_row m h n r = ap (λ p. record { items = ringed m h n; places = p }) (omega (arith, count_ringed m h n r, r.count_inside))

  pub held_put : (m : List X) (h n at : ℕ) (x : X) → Ringed m h n → n < length m → Spot (length m) h n at →
      as_row (held_of (set m at x) h (n + 1)) ≡ holding (as_row (held_of m h n)) (ringed m h n ++ x ∷ [])
  held_put m h n at x r lt s =
      let r' : Ringed (set m at x) h (n + 1) = record { head_inside = omega (arith, length-set m at x, r.head_inside); count_inside = omega (arith, length-set m at x) } in
      held_row (set m at x) h (n + 1) r' ∙ row_put m h n at x r lt s
      ∙ ap (λ w. holding w (ringed m h n ++ x ∷ [])) (sym (held_row m h n r))

  pub held_newest : (m : List X) (h n at : ℕ) (d : X) → Ringed m h n → (n ≡ 0 → ⊥) → Spot (length m) h (n - 1) at →
      as_row (held_of m h n) ≡ holding (as_row (held_of m h (n - 1))) (ringed m h (n - 1) ++ get_or m at d ∷ [])
  held_newest m h n at d r ne s =
      let r' : Ringed m h (n - 1) = record { head_inside = r.head_inside; count_inside = omega (arith, r.count_inside) } in
      held_row m h n r ∙ row_newest m h n at d r ne s
      ∙ ap (λ w. holding w (ringed m h (n - 1) ++ get_or m at d ∷ [])) (sym (held_row m h (n - 1) r'))

  pub held_oldest : (m : List X) (h n at : ℕ) (d : X) → Ringed m h n → (n ≡ 0 → ⊥) → Spot (length m) h 0 at →
      as_row (held_of m h n) ≡ holding (as_row (held_of m (at + 1) (n - 1))) (get_or m at d ∷ ringed m (at + 1) (n - 1))
  held_oldest m h n at d r ne s =
      let r' : Ringed m (at + 1) (n - 1) = record { head_inside = omega (arith, s.0); count_inside = omega (arith, r.count_inside) } in
      held_row m h n r ∙ row_oldest m h n at d r ne s
      ∙ ap (λ w. holding w (get_or m at d ∷ ringed m (at + 1) (n - 1))) (sym (held_row m (at + 1) (n - 1) r'))
