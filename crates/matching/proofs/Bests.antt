-- Two best lists are the same.
use Rattle.std.proofs.Common.{◌≡◌, ℕ, ◌<◌, ◌≤◌, true, false, sym, refl, ◌∙◌, subst, ⊎_elim, arith}
use mathlib.Core.Path.{fun_ext}
use Rattle.std.proofs.lemmas.Bool.{cases_lt, both_ways, true_from_ne_false}
use Rattle.matching.specs.Sets.{Set}
use Rattle.matching.specs.Choices.{Choice}
use Rattle.matching.specs.Market.{Market, Known, Better, Best}
use Rattle.matching.specs.Facts.{OneBest}
use Rattle.matching.proofs.Sets.{same_bool}

-- what a best list gives is in any other: else its trainee would like one of the two better
module _ (M : Market) (known : Known M) (kept : Choice) (A B : Set) (a : Best M kept A) (b : Best M kept B) where
  better_or : (k : ℕ) → A k ≡ true → B k ≡ false → (j : ℕ) → B j ≡ true → M.trainee j ≡ M.trainee k → M.order k < M.order j
  better_or k x y j z t = ⊎_elim (λ l. l) (λ l. absurd (a.liked B b.stable (M.trainee k) (j, z, t, worse l))) (cases_lt (M.order k) (M.order j))
    where
      worse : M.order j ≤ M.order k → Better M j A
      worse l i p q =
          let e : i ≡ k = a.stable.single i k p x (q ∙ t) in
          let P : ℕ → Type 0 = λ v. M.order j < M.order v in
          subst P (sym e) (strict (λ same. both_ways (B k) y (let Q : ℕ → Type 0 = λ v. B v ≡ true in subst Q (known.apart j k (b.stable.within j z) (a.stable.within k x) (b.stable.acceptable j z) (a.stable.acceptable k x) t same) z)))
        where
          strict : (M.order j ≡ M.order k → ⊥) → M.order j < M.order k
          strict ne = ⊎_elim (λ m. m) (λ m. absurd (ne (omega arith))) (cases_lt (M.order j) (M.order k))

  pub in_both : (k : ℕ) → A k ≡ true → B k ≡ true
  in_both k x = true_from_ne_false (B k) (λ y. b.liked A a.stable (M.trainee k) (k, x, refl, better_or k x y))

pub one_best : OneBest
one_best M known kept A B a b = fun_ext (λ k. same_bool _ _ (in_both M known kept A B a b k) (in_both M known kept B A b a k))
