-- What holds of each entry, and of each two, when one more comes.
use Rattle.std.proofs.Common.{◌≡◌, ℕ, ◌<◌, ◌≤◌, List, [], ◌∷◌, ◌++◌, length, get_or, sym, subst, inl, inr, arith, length-append}
use Rattle.std.proofs.lemmas.List.{get_or_append_left, get_or_push}
use Rattle.std.proofs.lemmas.Bool.{cases_lt}
use Rattle.deck.specs.Facts.{Two}

module _ {A : Type 0} (z : A) (xs : List A) (x : A) where
  last : (k : ℕ) → length xs ≤ k → k < length (xs ++ (x ∷ [])) → length xs ≡ k
  last k h lt = let n = length-append xs (x ∷ []) in omega arith

  pub each_push : (P : ℕ → A → Type 0) → ((k : ℕ) → k < length xs → P k (get_or xs k z)) → P (length xs) x → (k : ℕ) → k < length (xs ++ (x ∷ [])) → P k (get_or (xs ++ (x ∷ [])) k z)
  each_push P old new k lt = elim (cases_lt k (length xs)) [
    | inl h ↦ subst (λ (y : A). P k y) (sym (get_or_append_left xs (x ∷ []) z k h)) (old k h)
    | inr h ↦ let e = last k h lt in subst (λ (y : A). P k y) (sym (get_or_push xs x z k e)) (subst (λ (j : ℕ). P j x) e new)
  ]

  pub pairs_push : (P : A → A → Type 0) → ((i j : ℕ) → Two i j (length xs) → P (get_or xs i z) (get_or xs j z)) → ((i : ℕ) → i < length xs → P (get_or xs i z) x) →
      (i j : ℕ) → Two i j (length (xs ++ (x ∷ []))) → P (get_or (xs ++ (x ∷ [])) i z) (get_or (xs ++ (x ∷ [])) j z)
  pairs_push P old new i j h2 =
      let ij = h2.0 in
      let lt = h2.1 in
      let n = length-append xs (x ∷ []) in
      let hi : i < length xs = omega arith in
      subst (λ (y : A). P y (get_or (xs ++ (x ∷ [])) j z)) (sym (get_or_append_left xs (x ∷ []) z i hi))
      (elim (cases_lt j (length xs)) [
        | inl h ↦ subst (λ (y : A). P (get_or xs i z) y) (sym (get_or_append_left xs (x ∷ []) z j h)) (old i j (ij, h))
        | inr h ↦ subst (λ (y : A). P (get_or xs i z) y) (sym (get_or_push xs x z j (last j h lt))) (new i hi)
      ])
