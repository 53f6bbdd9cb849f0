-- Counting a bag by how often each number stands in it.
use Rattle.std.proofs.Common.{◌≡◌, ℕ, zero, suc, ◌+◌, ◌<◌, ◌≤◌, cond, eqb, List, [], ◌∷◌, length, sum_by, sym, refl, ap, ◌∙◌, ⊎_elim, arith}
use Rattle.std.proofs.lemmas.Bool.{cases_eq, cases_lt, eq-eqb, ne_eqb}
use Rattle.std.proofs.lemmas.List.Sorted.{sum_by-IsPermutation}
use Rattle.std.proofs.lemmas.List.Sums.{sum_by-cons}
use Rattle.std.specs.List.Sorted.{IsPermutation}
use Rattle.moves.specs.Bags.{times, total, ThoseCounted}

times_same : (k : ℕ) (xs : List ℕ) → 0 < times k (k ∷ xs)
times_same k xs = rw (eq-eqb k k refl) (omega arith)

total_none : (n : ℕ) → total n (λ k. 0) ≡ 0
total_none zero = refl
total_none (suc n) = let ih = total_none n in omega arith

total_plus : (n : ℕ) (f g : ℕ → ℕ) → total n (λ k. f k + g k) ≡ total n f + total n g
total_plus zero f g = refl
total_plus (suc n) f g = let ih = total_plus n f g in omega arith

pub total_same : (n : ℕ) (f g : ℕ → ℕ) → ((k : ℕ) → k < n → f k ≡ g k) → total n f ≡ total n g
total_same zero f g h = refl
total_same (suc n) f g h = let ih = total_same n f g (λ k l. h k (omega arith)) in omega (arith, h n (omega arith))

-- one number below `n` counts once
total_past : (n x : ℕ) → n ≤ x → total n (λ k. cond (eqb x k) 1 0) ≡ 0
total_past zero x h = refl
total_past (suc n) x h = let ih = total_past n x (omega arith) in rw (ne_eqb x n (λ e. omega arith)) (omega arith)

total_one : (n x : ℕ) → x < n → total n (λ k. cond (eqb x k) 1 0) ≡ 1
total_one zero x h = absurd (omega arith)
total_one (suc n) x h = ⊎_elim
    (λ (e : x ≡ n). let p = total_past n x (omega arith) in rw (eq-eqb x n e) (omega arith))
    (λ (ne : x ≡ n → ⊥). let ih = total_one n x (omega arith) in rw (ne_eqb x n ne) (omega arith))
    (cases_eq x n)

-- a list of numbers below `n` is as long as each of them is often in it, taken together
pub length_by_times : (n : ℕ) (xs : List ℕ) → ((k : ℕ) → n ≤ k → times k xs ≡ 0) → length xs ≡ total n (λ k. times k xs)
length_by_times n [] h = sym (total_none n)
length_by_times n (x ∷ xs) h =
    let lt : x < n = ⊎_elim (λ (l : x < n). l) (λ (l : n ≤ x). absurd (omega (arith, h x l, times_same x xs))) (cases_lt x n) in
    let ih = length_by_times n xs (λ k l. omega (arith, h k l)) in
    let one = total_one n x lt in
    let plus = total_plus n (λ k. cond (eqb x k) 1 0) (λ k. times k xs) in
    omega arith

pub those_counted : ThoseCounted
those_counted n w xs out h =
    length_by_times n xs (λ k l. h k ∙ ap (λ b. cond b 1 0) (out k l))
    ∙ total_same n (λ k. times k xs) (λ k. cond (w k) 1 0) (λ k l. h k)

times_sum : (k : ℕ) (xs : List ℕ) → times k xs ≡ sum_by (λ x. cond (eqb x k) 1 0) xs
times_sum k [] = refl
times_sum k (x ∷ xs) = ap (λ (n : ℕ). cond (eqb x k) 1 0 + n) (times_sum k xs) ∙ sym (sum_by-cons (λ y. cond (eqb y k) 1 0) x xs)

-- equal bags hold each number equally often
pub times-IsPermutation : (k : ℕ) (xs ys : List ℕ) → IsPermutation xs ys → times k ys ≡ times k xs
times-IsPermutation k xs ys h = times_sum k ys ∙ sum_by-IsPermutation (λ x. cond (eqb x k) 1 0) xs ys h ∙ sym (times_sum k xs)
