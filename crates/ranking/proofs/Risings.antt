-- The numbers of a set in rising order: what they sum to, and that they differ.
use Rattle.std.proofs.Common.{◌≡◌, ℕ, zero, suc, ◌+◌, ◌<◌, ◌≤◌, Bool, true, false, cond, ◌||◌, eqb, List, [], ◌∷◌, ◌++◌, length, get_or, sum_by, sym, refl, ap, ◌∙◌, subst, arith}
use Rattle.std.proofs.lemmas.List.{append-nil}
use Rattle.std.proofs.lemmas.List.Sums.{sum_by-append}
use Rattle.std.proofs.lemmas.Bool.{eq-eqb, ne_eqb, true≢false}
use Rattle.std.proofs.lemmas.Bool.Decides.{nat_tests}
use Rattle.std.proofs.lemmas.Map.Keys.{IsDistinct-push, IsDistinct-IsPermutation, apart_from_distinct}
use Rattle.std.specs.Cmp.{nat_eq_equiv}
use Rattle.std.specs.List.{IsDistinct, list_any}
use Rattle.std.specs.List.Sorted.{IsPermutation}
use Rattle.moves.specs.Bags.{total}
use Rattle.matching.specs.Sets.{Set, rising}

one_sum : (f : ℕ → ℕ) (b : Bool) (n : ℕ) → sum_by f (cond b (n ∷ []) []) ≡ cond b (f n) 0
one_sum f true n = omega arith
one_sum f false n = refl

pub rising_sum : (f : ℕ → ℕ) (n : ℕ) (X : Set) → sum_by f (rising n X) ≡ total n (λ j. cond (X j) (f j) 0)
rising_sum f zero X = refl
rising_sum f (suc n) X =
    sum_by-append f (rising n X) (cond (X n) (n ∷ []) [])
    ∙ (λ i. rising_sum f n X i + one_sum f (X n) n i)

any_push : (k : ℕ) (xs : List ℕ) (b : Bool) (n : ℕ) → eqb k n ≡ false → list_any (eqb k) (xs ++ cond b (n ∷ []) []) ≡ list_any (eqb k) xs
any_push k [] true n h = ap (λ e. e || false) h
any_push k [] false n h = refl
any_push k (x ∷ xs) b n h = ap (λ e. eqb k x || e) (any_push k xs b n h)

none_past : (k n : ℕ) (X : Set) → n ≤ k → list_any (eqb k) (rising n X) ≡ false
none_past k zero X h = refl
none_past k (suc n) X h = any_push k (rising n X) (X n) n (ne_eqb k n (λ e. omega arith)) ∙ none_past k n X (omega arith)

rising_apart : (n : ℕ) (X : Set) → IsDistinct eqb (rising n X)
unfolding IsDistinct
rising_apart zero X = tt
rising_apart (suc n) X = go (rising_apart n X) (X n)
  where
    go : IsDistinct eqb (rising n X) → (b : Bool) → IsDistinct eqb (rising n X ++ cond b (n ∷ []) [])
    go h true = IsDistinct-push nat_eq_equiv (rising n X) n h (none_past n n X (omega arith))
    go h false = subst (IsDistinct eqb) (sym (append-nil (rising n X))) h

turn : (x y : ℕ) → eqb x y ≡ eqb y x
turn x y = grind (arith, nat_tests)

-- in any order no two are the same
pub shuffled_apart : (n : ℕ) (X : Set) (ns : List ℕ) → IsPermutation (rising n X) ns
    → (i j : ℕ) → i < j → j < length ns → get_or ns i 0 ≡ get_or ns j 0 → ⊥
shuffled_apart n X ns h i j l m e =
    let a = apart_from_distinct eqb ns i j 0 (IsDistinct-IsPermutation eqb turn (rising n X) ns h (rising_apart n X)) l m in
    true≢false (sym (eq-eqb _ _ e) ∙ a)
