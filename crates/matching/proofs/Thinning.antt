-- Irrelevance from the removal of one contract that is not kept.
use Rattle.std.proofs.Common.{◌≡◌, ℕ, zero, suc, true, false, not, ◌&&◌, ◌||◌, leb, ◌⊎◌, sym, refl, ap, ◌∙◌, subst, inl, inr, ⊎_elim, arith}
use mathlib.Core.Path.{fun_ext}
use Rattle.std.proofs.lemmas.Bool.{and_parts, and_from, and_left, and_right, or_left, or_right, or_from, not_from_true, cases_Bool, cases_eq, cases_lt, eq-eqb, ne_eqb, le-leb, lt-leb}
use Rattle.matching.specs.Sets.{Set, less, Part, Within}
use Rattle.matching.specs.Choices.{Choice}
use Rattle.matching.specs.Facts.{OneRemoved}
use Rattle.std.proofs.Math.Bool.{or-true}
use Rattle.matching.proofs.Sets.{out_of_part, and_true}

-- X without what is below i and not in Y
abbrev thinned : Set → Set → ℕ → Set
thinned X Y i j = X j && (Y j || leb i j)

leb_other : (i j : ℕ) → (i ≡ j → ⊥) → leb (suc i) j ≡ leb i j
leb_other i j ne =
    ⊎_elim (λ l. le-leb (suc i) j l ∙ sym (le-leb i j (omega arith))) (λ l. lt-leb (suc i) j (omega arith) ∙ sym (lt-leb i j (omega arith))) (cases_lt i j)

at_by : (i : ℕ) (U V : Set) → U i ≡ V i → ((j : ℕ) → (i ≡ j → ⊥) → U j ≡ V j) → U ≡ V
at_by i U V here other = fun_ext (λ j. ⊎_elim (λ e. let P : ℕ → Type 0 = λ t. U t ≡ V t in subst P e here) (other j) (cases_eq i j))

module _ (n : ℕ) (kept : Choice) (one : (X : Set) → Within n X → (z : ℕ) → X z ≡ true → kept X z ≡ false → kept (less X z) ≡ kept X)
    (X Y : Set) (within : Within n X) (w : Part Y X) (v : Part (kept X) Y) where
  start : thinned X Y 0 ≡ X
  start = fun_ext (λ j. ap (λ t. X j && (Y j || t)) (le-leb 0 j (omega arith)) ∙ ap (λ t. X j && t) (or-true (Y j)) ∙ and_true (X j))

  stays : (i : ℕ) → (Y i ≡ true) ⊎ (X i ≡ false) → thinned X Y (suc i) ≡ thinned X Y i
  stays i h =
      at_by i (thinned X Y (suc i)) (thinned X Y i)
      (⊎_elim (λ y. ap (λ t. X i && t) (or_left (Y i) (leb (suc i) i) y ∙ sym (or_left (Y i) (leb i i) y))) (λ x. and_left (X i) _ x ∙ sym (and_left (X i) _ x)) h)
      (λ j ne. ap (λ t. X j && (Y j || t)) (leb_other i j ne))

  goes : (i : ℕ) → Y i ≡ false → thinned X Y (suc i) ≡ less (thinned X Y i) i
  goes i h =
      at_by i (thinned X Y (suc i)) (less (thinned X Y i) i)
      (and_right (X i) _ (or_from (Y i) (leb (suc i) i) h (lt-leb (suc i) i (omega arith))) ∙ sym (and_right (thinned X Y i i) _ (not_from_true _ (eq-eqb i i refl))))
      (λ j ne. ap (λ t. X j && (Y j || t)) (leb_other i j ne) ∙ sym (ap (λ t. thinned X Y i j && not t) (ne_eqb j i (λ e. ne (sym e))) ∙ and_true (thinned X Y i j)))

  step : (i : ℕ) → kept (thinned X Y i) ≡ kept X → kept (thinned X Y (suc i)) ≡ kept X
  step i ih = ⊎_elim (λ y. same (inl y)) (λ y. ⊎_elim (λ x. goes_on y x) (λ x. same (inr x)) (cases_Bool (X i))) (cases_Bool (Y i))
    where
      same : (Y i ≡ true) ⊎ (X i ≡ false) → kept (thinned X Y (suc i)) ≡ kept X
      same h = ap kept (stays i h) ∙ ih

      goes_on : Y i ≡ false → X i ≡ true → kept (thinned X Y (suc i)) ≡ kept X
      goes_on y x =
          ap kept (goes i y)
          ∙ one (thinned X Y i) (λ k h. within k (and_parts (X k) _ h).0) i (and_from _ _ x (or_right (Y i) (leb i i) (le-leb i i (omega arith)))) (ap (λ Z. Z i) ih ∙ out_of_part (kept X) Y v i y)
          ∙ ih

  thin : (i : ℕ) → kept (thinned X Y i) ≡ kept X
  thin zero = ap kept start
  thin (suc i) = step i (thin i)

  ended : thinned X Y n ≡ Y
  ended = fun_ext λ j. ⊎_elim (λ y. and_from _ _ (w j y) (or_left _ _ y) ∙ sym y)
      (λ y. ⊎_elim (λ x. and_right (X j) _ (or_from _ _ y (lt-leb n j (within j x))) ∙ sym y) (λ x. and_left _ _ x ∙ sym y) (cases_Bool (X j))) (cases_Bool (Y j))

  pub thinned_all : kept Y ≡ kept X
  thinned_all = ap kept (sym ended) ∙ thin n

pub one_removed : OneRemoved
one_removed n kept p one X Y within w v = thinned_all n kept one X Y within w v
