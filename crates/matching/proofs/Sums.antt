-- Sums and counts over the numbers below n.
use Rattle.std.proofs.Common.{◌≡◌, ℕ, zero, suc, ◌+◌, ◌<◌, ◌≤◌, Bool, true, false, cond, sym, refl, ap, ◌∙◌, ⊎_elim, arith}
use Rattle.std.proofs.lemmas.Bool.{cases_eq, false≢true, cond-true, cond-false}
use Rattle.moves.specs.Bags.{total, passing}
use Rattle.moves.proofs.Bags.{total_same}

pub total_le : (n : ℕ) (g h : ℕ → ℕ) → ((j : ℕ) → j < n → g j ≤ h j) → total n g ≤ total n h
total_le zero g h w = omega arith
total_le (suc n) g h w =
    let a : total n g ≤ total n h = total_le n g h (λ j l. w j (omega arith)) in
    let b : g n ≤ h n = w n (omega arith) in
    omega arith

-- one term more
pub total_bump : (n : ℕ) (g h : ℕ → ℕ) (z x : ℕ) → z < n → h z ≡ g z + x → ((c : ℕ) → c < n → (c ≡ z → ⊥) → h c ≡ g c) → total n h ≡ total n g + x
total_bump zero g h z x l e o = absurd (omega arith)
total_bump (suc n) g h z x l e o = ⊎_elim (λ q. last q) (λ q. inner q (total_bump n g h z x)) (cases_eq z n)
  where
    last : z ≡ n → total (suc n) h ≡ total (suc n) g + x
    last q =
        let a : total n h ≡ total n g = total_same n h g (λ c i. o c (omega arith) (λ p. omega arith)) in
        let d : h n ≡ g n + x = ap h (sym q) ∙ e ∙ ap (λ j. g j + x) q in
        omega arith

    inner : (z ≡ n → ⊥) → (z < n → h z ≡ g z + x → ((c : ℕ) → c < n → (c ≡ z → ⊥) → h c ≡ g c) → total n h ≡ total n g + x) → total (suc n) h ≡ total (suc n) g + x
    inner q ih =
        let a : total n h ≡ total n g + x = ih (omega arith) e (λ c i p. o c (omega arith) p) in
        let d : h n ≡ g n = o n (omega arith) (λ p. q (sym p)) in
        omega arith

pub bit_le : (a b : Bool) → (a ≡ true → b ≡ true) → cond a 1 0 ≤ cond b 1 0
bit_le false true w = omega arith
bit_le false false w = omega arith
bit_le true true w = omega arith
bit_le true false w = absurd (false≢true (w refl))

pub passing_le : (n : ℕ) (p q : ℕ → Bool) → ((j : ℕ) → j < n → p j ≡ true → q j ≡ true) → passing n p ≤ passing n q
passing_le n p q w = total_le n (λ j. cond (p j) 1 0) (λ j. cond (q j) 1 0) (λ j l. bit_le (p j) (q j) (w j l))

pub passing_same : (n : ℕ) (p q : ℕ → Bool) → ((j : ℕ) → j < n → p j ≡ q j) → passing n p ≡ passing n q
passing_same n p q w = total_same n (λ j. cond (p j) 1 0) (λ j. cond (q j) 1 0) (λ j l. ap (λ b. cond b 1 0) (w j l))

-- nothing passes, or something is there
pub passing_none : (n : ℕ) (p : ℕ → Bool) → ((j : ℕ) → j < n → p j ≡ false) → passing n p ≡ 0
passing_none zero p h = refl
passing_none (suc n) p h =
    let a : passing n p ≡ 0 = passing_none n p (λ j l. h j (omega arith)) in
    let c : ◌≡◌ {A = ℕ} (cond (p n) 1 0) 0 = cond-false (p n) 1 0 (h n (omega arith)) in
    omega arith

pub passing_some : (n : ℕ) (p : ℕ → Bool) (j : ℕ) → j < n → p j ≡ true → 1 ≤ passing n p
passing_some zero p j l e = absurd (omega arith)
passing_some (suc n) p j l e = ⊎_elim (λ q. last q) (λ q. let a : 1 ≤ passing n p = passing_some n p j (omega arith) e in omega arith) (cases_eq j n)
  where
    last : j ≡ n → 1 ≤ passing (suc n) p
    last q = let c : ◌≡◌ {A = ℕ} (cond (p n) 1 0) 1 = cond-true (p n) 1 0 (ap p (sym q) ∙ e) in omega arith
