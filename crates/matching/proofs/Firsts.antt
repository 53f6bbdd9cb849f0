-- The first few by an order: a lawful choice.
use Rattle.std.proofs.Common.{◌≡◌, ℕ, ◌<◌, ◌≤◌, Bool, true, false, ◌&&◌, ltb, sym, ap, ◌∙◌, subst, ⊎_elim, arith}
use mathlib.Core.Path.{fun_ext}
use Rattle.std.proofs.lemmas.Bool.{and_parts, and_from, and_left, and_right, and_cases, not_from_true, cases_Bool, cases_eq, both_ways, eq-eqb, ltb-true, ltb-false, lt-ltb}
use Rattle.matching.specs.Sets.{Set, less}
use Rattle.matching.specs.Choices.{KeepsPart, Substitutable, Lawful, Strict, ahead, first}
use Rattle.matching.specs.Facts.{FirstLawful}
use Rattle.matching.proofs.Sets.{same_bool, less_other, less_of}
use Rattle.matching.proofs.Sums.{passing_le}
use Rattle.matching.proofs.Thinning.{one_removed}

module _ (n : ℕ) (A : Set) (before : ℕ → ℕ → Bool) (r : ℕ → ℕ) (strict : Strict before r) where
  ahead_le : (X Y : Set) (k l : ℕ) → ((j : ℕ) → X j ≡ true → before j k ≡ true → (Y j ≡ true) × (before j l ≡ true)) → ahead n A before X k ≤ ahead n A before Y l
  ahead_le X Y k l h = passing_le n (λ j. X j && (A j && before j k)) (λ j. Y j && (A j && before j l)) at
    where
      at : (j : ℕ) → j < n → (X j && (A j && before j k)) ≡ true → (Y j && (A j && before j l)) ≡ true
      at j i e =
          let a = and_parts (X j) (A j && before j k) e in
          let b = and_parts (A j) (before j k) a.1 in
          let c = h j a.0 b.1 in
          and_from _ _ c.0 (and_from _ _ b.0 c.1)

  abbrev room : Set → ℕ → Bool
  room X k = A k && ltb (ahead n A before X k) (r k)

  room_le : (X Y : Set) (k : ℕ) → ((j : ℕ) → X j ≡ true → before j k ≡ true → Y j ≡ true) → room Y k ≡ true → room X k ≡ true
  room_le X Y k h e =
      let a = and_parts (A k) (ltb (ahead n A before Y k) (r k)) e in
      let b : ahead n A before Y k < r k = ltb-true _ _ a.1 in
      let c : ahead n A before X k ≤ ahead n A before Y k = ahead_le X Y k k (λ j x o. (h j x o, o)) in
      and_from _ _ a.0 (lt-ltb _ _ (omega arith))

  first_part : KeepsPart n (first n A before r)
  first_part X w k e = (and_parts _ _ e).0

  first-substitutable : Substitutable n (first n A before r)
  first-substitutable X Y w p k h e =
      and_right (Y k) _ (⊎_elim (λ o. absurd (both_ways _ e (and_from _ _ h (room_le X Y k (λ j a b. p j a) o)))) (λ o. o) (cases_Bool (room Y k)))

  apart : (z k : ℕ) → before z k ≡ false → (j : ℕ) → before j k ≡ true → j ≡ z → ⊥
  apart z k f j o e = both_ways _ f (let P : ℕ → Type 0 = λ i. before i k ≡ true in subst P e o)

  -- z is not among the first, and goes
  module _ (X : Set) (z : ℕ) (x : X z ≡ true) (e : first n A before r X z ≡ false) where
    shut : room X z ≡ false
    shut = ⊎_elim (λ a. absurd (both_ways _ a x)) (λ a. a) (and_cases (X z) _ e)

    -- z may not be taken at all, so it is not counted
    uncounted : (k : ℕ) → A z ≡ false → room (less X z) k ≡ true → room X k ≡ true
    uncounted k m h =
        let a = and_parts (A k) (ltb (ahead n A before (less X z) k) (r k)) h in
        let b : ahead n A before (less X z) k < r k = ltb-true _ _ a.1 in
        let c : ahead n A before X k ≤ ahead n A before (less X z) k = passing_le n (λ j. X j && (A j && before j k)) (λ j. less X z j && (A j && before j k)) at in
        and_from _ _ a.0 (lt-ltb _ _ (omega arith))
      where
        at : (j : ℕ) → j < n → (X j && (A j && before j k)) ≡ true → (less X z j && (A j && before j k)) ≡ true
        at j i o =
            let a = and_parts (X j) (A j && before j k) o in
            and_from _ _ (less_other X z j (λ q. both_ways _ m (let P : ℕ → Type 0 = λ i. A i ≡ true in subst P q (and_parts (A j) (before j k) a.1).0)) ∙ a.0) a.1

    -- where z comes before k, as many come before k without z as came before z
    behind : (k : ℕ) → before z k ≡ true → ltb (ahead n A before X z) (r z) ≡ false → room (less X z) k ≡ true → ⊥
    behind k zk f h =
        let a : ahead n A before (less X z) k < r k = ltb-true _ _ (and_parts (A k) _ h).1 in
        let b : r z ≤ ahead n A before X z = ltb-false _ _ f in
        let c : ahead n A before X z ≤ ahead n A before (less X z) z = ahead_le X (less X z) z z (λ j p o. (less_other X z j (apart z z (strict.irreflexive z) j o) ∙ p, o)) in
        let d : ahead n A before (less X z) z ≤ ahead n A before (less X z) k = ahead_le (less X z) (less X z) z k (λ j p o. (p, strict.transitive j z k o zk)) in
        let g : r z ≡ r k = strict.bound z k zk in
        omega arith

    back : (k : ℕ) → room (less X z) k ≡ true → room X k ≡ true
    back k h = ⊎_elim
        (λ zk. ⊎_elim (λ m. uncounted k m h) (λ f. absurd (behind k zk f h)) (and_cases (A z) _ shut))
        (λ zk. room_le X (less X z) k (λ j a o. less_other X z j (apart z k zk j o) ∙ a) h) (cases_Bool (before z k))

    removed-at : (k : ℕ) → first n A before r (less X z) k ≡ first n A before r X k
    removed-at k = ⊎_elim same differ (cases_eq k z)
      where
        same : k ≡ z → first n A before r (less X z) k ≡ first n A before r X k
        same q = and_left _ _ (and_right (X k) _ (not_from_true _ (eq-eqb k z q))) ∙ sym (ap (λ j. first n A before r X j) q ∙ e)

        differ : (k ≡ z → ⊥) → first n A before r (less X z) k ≡ first n A before r X k
        differ ne =
            ap (λ t. t && room (less X z) k) (less_other X z k ne)
            ∙ ap (λ t. X k && t) (same_bool _ _ (back k) (room_le (less X z) X k (λ j a o. less_of X z j a)))

  pub first_is_lawful : Lawful n (first n A before r)
  first_is_lawful = record {
    part = first_part;
    substitutable = first-substitutable;
    irrelevant = one_removed n (first n A before r) first_part (λ X w z x e. fun_ext (removed-at X z x e));
  }

pub first-lawful : FirstLawful
first-lawful n A before r strict = first_is_lawful n A before r strict
