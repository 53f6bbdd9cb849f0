-- The three laws of a choice by caps on a tree of groups, over any order of the contracts.
use Rattle.std.specs.Prelude.{◌≡◌, ℕ, ◌+◌, ◌<◌, ◌≤◌, min, Bool, true, false, ◌&&◌, ltb, ◌==◌, ◌≢◌, Some, Option, nat_eq, nat_lt, refl}
use Rattle.std.proofs.Common.{sym, ◌∙◌, ap, subst, ⊎_elim, arith}
use Rattle.std.proofs.Math.Path.{fun_ext}
use Rattle.std.proofs.lemmas.Bool.{and_parts, and_from, and_left, and_right, and_cases, not_from_true, cases_Bool, cases_eq, cases_lt, both_ways, eq-eqb, ne_eqb, ltb-true, ltb-false, lt-ltb, le-ltb}
use Rattle.std.proofs.lemmas.Option.{same_Some}
use Rattle.moves.specs.Bags.{passing}
use Rattle.matching.specs.Sets.{Set, less}
use Rattle.matching.specs.Choices.{KeepsPart, Substitutable, Lawful}
use Rattle.matching.proofs.Sets.{same_bool, less_other, less_of}
use Rattle.matching.proofs.Sums.{passing_le}
use Rattle.matching.proofs.Thinning.{one_removed}
use Rattle.quota.specs.Caps.{kids, upwards}
use Rattle.quota.specs.Rule.{Up, here, there}
use Rattle.quota.specs.Sums.{kids_le, kids_same}
use Rattle.quota.specs.Tree.{up_trans, down, upwards_all, upwards_from, some_fails}

-- caps on a tree, and an order of the n contracts
pub record Caps : Type 0 where
  pub n : ℕ
  pub par : ℕ → Option ℕ
  pub cap : ℕ → ℕ
  pub grp : ℕ → ℕ
  pub ord : ℕ → ℕ → Bool
  pub earlier : (v p : ℕ) → v < 64 → par v ≡ Some p → p < v
  pub none : (v : ℕ) → 64 ≤ v → cap v ≡ 0
  pub irrefl : (j : ℕ) → ord j j ≡ false
  pub trans : (i j k : ℕ) → ord i j ≡ true → ord j k ≡ true → ord i k ≡ true

abbrev pub own : Caps → ℕ → Set → ℕ → ℕ
own T v X k = passing T.n (λ j. X j && (T.grp j == v && T.ord j k))

abbrev pub Fills : Caps → (ℕ → Set → ℕ → ℕ) → Type 0
Fills T G = (v : ℕ) (X : Set) (k : ℕ) → v < 64 → G v X k ≡ min (T.cap v) (kids T.par (λ c. G c X k) v + own T v X k)

abbrev pub chosen : Caps → (ℕ → Set → ℕ → ℕ) → Set → Set
chosen T G X k = X k && upwards T.par (λ v. ltb (G v X k) (T.cap v)) (T.grp k)

module _ (T : Caps) (G : ℕ → Set → ℕ → ℕ) (eqn : Fills T G) where
  abbrev ok : Set → ℕ → ℕ → Bool
  ok X k v = nat_lt (G v X k) (T.cap v)

  in_cap : (v : ℕ) (X : Set) (k : ℕ) → v < 64 → G v X k ≤ T.cap v
  in_cap v X k l = omega (arith, eqn v X k l)

  -- what is above k in X is above l in Y
  abbrev Less : Set → ℕ → Set → ℕ → Type 0
  Less X k Y l = (j : ℕ) → j < T.n → X j ≡ true → T.ord j k ≡ true → (Y j ≡ true) × (T.ord j l ≡ true)

  own_le : (X Y : Set) (k l : ℕ) → Less X k Y l → (v : ℕ) → own T v X k ≤ own T v Y l
  own_le X Y k l h v = passing_le T.n (λ j. X j && (T.grp j == v && T.ord j k)) (λ j. Y j && (T.grp j == v && T.ord j l)) at
    where
      at : (j : ℕ) → j < T.n → (X j && (T.grp j == v && T.ord j k)) ≡ true → (Y j && (T.grp j == v && T.ord j l)) ≡ true
      at j i e =
          let a = and_parts (X j) (T.grp j == v && T.ord j k) e in
          let b = and_parts (T.grp j == v) (T.ord j k) a.1 in
          let c = h j i a.0 b.1 in
          and_from _ _ c.0 (and_from _ _ b.0 c.1)

  more : (X Y : Set) (k l : ℕ) → Less X k Y l → (v : ℕ) → v < 64 → G v X k ≤ G v Y l
  more X Y k l h = down (λ v. G v X k ≤ G v Y l) step
    where
      step : (v : ℕ) → v < 64 → ((c : ℕ) → v < c → c < 64 → G c X k ≤ G c Y l) → G v X k ≤ G v Y l
      step v i ih =
          let a : kids T.par (λ c. G c X k) v ≤ kids T.par (λ c. G c Y l) v = kids_le T.par T.earlier (λ c. G c X k) (λ c. G c Y l) v ih in
          let b : own T v X k ≤ own T v Y l = own_le X Y k l h v in
          let e = eqn v X k i in
          let f = eqn v Y l i in
          omega (arith, e, f)

  open_le : (X Y : Set) (k l : ℕ) → Less X k Y l → (v : ℕ) → ok Y l v ≡ true → ok X k v ≡ true
  open_le X Y k l h v e = ⊎_elim (λ i. lt-ltb _ _ (let a = more X Y k l h v i in let b = ltb-true _ _ e in omega arith))
      (λ i. absurd (let a = T.none v i in let b = ltb-true _ _ e in omega arith)) (cases_lt v 64)

  -- a group that passes at all is one of the 64
  closed : (X : Set) (k v : ℕ) → 64 ≤ v → ok X k v ≡ false
  closed X k v l = le-ltb _ _ (omega (arith, T.none v l))

  real : (X : Set) (k v : ℕ) → ok X k v ≡ true → v < 64
  real X k v e = ⊎_elim (λ i. i) (λ i. absurd (both_ways _ (closed X k v i) e)) (cases_lt v 64)

  pass_all : (X : Set) (k : ℕ) → upwards T.par (ok X k) (T.grp k) ≡ true → (w : ℕ) → Up T.par (T.grp k) w → ok X k w ≡ true
  pass_all X k = upwards_all T.par (ok X k) T.earlier (T.grp k) (closed X k (T.grp k))

  pass_by : (X Y : Set) (k : ℕ) → ((w : ℕ) → Up T.par (T.grp k) w → ok Y k w ≡ true → ok X k w ≡ true)
      → upwards T.par (ok Y k) (T.grp k) ≡ true → upwards T.par (ok X k) (T.grp k) ≡ true
  pass_by X Y k h e = upwards_from T.par (ok X k) 64 (T.grp k) (λ w u. h w u (pass_all Y k e w u))

  pass_le : (X Y : Set) (k : ℕ) → Less X k Y k → upwards T.par (ok Y k) (T.grp k) ≡ true → upwards T.par (ok X k) (T.grp k) ≡ true
  pass_le X Y k h = pass_by X Y k (λ w u. open_le X Y k k h w)

  chosen_part : KeepsPart T.n (chosen T G)
  chosen_part X w k e = (and_parts _ _ e).0

  chosen-substitutable : Substitutable T.n (chosen T G)
  chosen-substitutable X Y inside w k h e =
      and_right (Y k) _ (⊎_elim (λ p. absurd (both_ways _ e (and_from _ _ h (pass_le X Y k (λ j i a b. (w j a, b)) p)))) (λ p. p) (cases_Bool (upwards T.par (ok Y k) (T.grp k))))

  -- the removal of one contract z that is not kept; at u it finds no place
  module _ (X : Set) (z u : ℕ) (up : Up T.par (T.grp z) u) (full : ok X z u ≡ false) (k : ℕ) (zk : T.ord z k ≡ true) where
    not-z : (j : ℕ) → T.ord j z ≡ true → j ≢ z
    not-z j o e = both_ways _ (T.irrefl z) (let P : ℕ → Type 0 = λ i. T.ord i z ≡ true in subst P e o)

    -- z's full group is full for k too, with z or without it
    still : u < 64 → T.cap u ≤ G u (less X z) k
    still l =
        let a : G u X z ≤ G u (less X z) z = more X (less X z) z z (λ j i x o. (less_other X z j (not-z j o) ∙ x, o)) u l in
        let b : G u (less X z) z ≤ G u (less X z) k = more (less X z) (less X z) z k (λ j i x o. (x, T.trans j z k o zk)) u l in
        let c : T.cap u ≤ G u X z = ltb-false _ _ full in
        omega arith

    fewer : (v : ℕ) → v < 64 → G v (less X z) k ≤ G v X k
    fewer v l = more (less X z) X k k (λ j i x o. ((and_parts _ _ x).0, o)) v l

    -- the full group is not above v
    abbrev Apart : ℕ → Type 0
    Apart v = (p : ℕ) → T.par v ≡ Some p → Up T.par p u → ⊥

    not-under : (v : ℕ) → (v ≢ u) → Apart v → Up T.par v u → ⊥
    not-under v ne h here = ne refl
    not-under v ne h (there {p} e a) = h p e a

    own_same : (v : ℕ) → (T.grp z == v) ≡ false → own T v (less X z) k ≡ own T v X k
    own_same v e = ap (λ p. passing T.n p) (fun_ext at)
      where
        at : (j : ℕ) → (less X z j && (T.grp j == v && T.ord j k)) ≡ (X j && (T.grp j == v && T.ord j k))
        at j = ⊎_elim (λ q. let g : nat_eq (T.grp j) v ≡ false = ap (λ i. nat_eq (T.grp i) v) q ∙ e in and_right _ _ (and_left _ _ g) ∙ sym (and_right _ _ (and_left _ _ g)))
            (λ q. ap (λ t. t && (T.grp j == v && T.ord j k)) (less_other X z j q)) (cases_eq j z)

    -- z's removal is seen only below the full group
    unseen : (v : ℕ) → v < 64 → Apart v → G v (less X z) k ≡ G v X k
    unseen = down (λ v. Apart v → G v (less X z) k ≡ G v X k) step
      where
        step : (v : ℕ) → v < 64 → ((c : ℕ) → v < c → c < 64 → Apart c → G c (less X z) k ≡ G c X k) → Apart v → G v (less X z) k ≡ G v X k
        step v l ih h = ⊎_elim at-u (λ ne. even (not-under v ne h)) (cases_eq v u)
          where
            at-u : v ≡ u → G v (less X z) k ≡ G v X k
            at-u e =
                let P : ℕ → Type 0 = λ j. T.cap j ≤ G j (less X z) k in
                let a : T.cap v ≤ G v (less X z) k = subst P (sym e) (still (let Q : ℕ → Type 0 = λ j. j < 64 in subst Q e l)) in
                let b : G v (less X z) k ≤ G v X k = fewer v l in
                let c : G v X k ≤ T.cap v = in_cap v X k l in
                omega arith

            even : (Up T.par v u → ⊥) → G v (less X z) k ≡ G v X k
            even n =
                let P : ℕ → Type 0 = λ j. Up T.par j u in
                let a : kids T.par (λ c. G c (less X z) k) v ≡ kids T.par (λ c. G c X k) v =
                kids_same T.par T.earlier (λ c. G c (less X z) k) (λ c. G c X k) v (λ c e i j. ih c i j (λ p q b. n (subst P (same_Some p v (sym q ∙ e)) b))) in
                let b : own T v (less X z) k ≡ own T v X k = own_same v (ne_eqb _ _ (λ e. n (subst P e up))) in
                let e = eqn v (less X z) k l in
                let f = eqn v X k l in
                omega (arith, e, f)

    below : upwards T.par (ok (less X z) k) (T.grp k) ≡ true → upwards T.par (ok X k) (T.grp k) ≡ true
    below e = pass_by X (less X z) k at e
      where
        at : (w : ℕ) → Up T.par (T.grp k) w → ok (less X z) k w ≡ true → ok X k w ≡ true
        at w a o = ap (λ x. ltb x (T.cap w)) (sym (unseen w (real (less X z) k w o) (λ p e b. never (up_trans a (there e b))))) ∙ o
          where
            never : Up T.par (T.grp k) u → ⊥
            never b =
                let c = pass_all (less X z) k e u b in
                let l = real (less X z) k u c in
                let d : G u (less X z) k < T.cap u = ltb-true _ _ c in
                let f : T.cap u ≤ G u (less X z) k = still l in
                omega arith

  module _ (X : Set) (z : ℕ) (x : X z ≡ true) (e : chosen T G X z ≡ false) where
    shut : upwards T.par (ok X z) (T.grp z) ≡ false
    shut = ⊎_elim (λ a. absurd (both_ways _ a x)) (λ a. a) (and_cases (X z) _ e)

    apart : (k : ℕ) → T.ord z k ≡ false → (j : ℕ) → T.ord j k ≡ true → j ≢ z
    apart k f j o q = both_ways _ f (let P : ℕ → Type 0 = λ i. T.ord i k ≡ true in subst P q o)

    back : (k : ℕ) → upwards T.par (ok (less X z) k) (T.grp k) ≡ true → upwards T.par (ok X k) (T.grp k) ≡ true
    back k = ⊎_elim (λ zk. let f = some_fails T.par (ok X z) 64 (T.grp z) shut in below X z f.0 f.2 f.3 k zk)
        (λ zk. pass_le X (less X z) k (λ j i a o. (less_other X z j (apart k zk j o) ∙ a, o))) (cases_Bool (T.ord z k))

    removed-at : (k : ℕ) → chosen T G (less X z) k ≡ chosen T G X k
    removed-at k = ⊎_elim same differ (cases_eq k z)
      where
        same : k ≡ z → chosen T G (less X z) k ≡ chosen T G X k
        same q = and_left _ _ (and_right (X k) _ (not_from_true _ (eq-eqb k z q))) ∙ sym (ap (λ j. chosen T G X j) q ∙ e)

        differ : (k ≢ z) → chosen T G (less X z) k ≡ chosen T G X k
        differ ne =
            ap (λ t. t && upwards T.par (ok (less X z) k) (T.grp k)) (less_other X z k ne)
            ∙ ap (λ t. X k && t) (same_bool _ _ (back k) (pass_le (less X z) X k (λ j i a o. (less_of X z j a, o))))

  pub chosen-lawful : Lawful T.n (chosen T G)
  chosen-lawful = record {
    part = chosen_part;
    substitutable = chosen-substitutable;
    irrelevant = one_removed T.n (chosen T G) chosen_part (λ X w z x e. fun_ext (removed-at X z x e));
  }
