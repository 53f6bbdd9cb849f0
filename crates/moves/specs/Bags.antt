-- How often a trainee stands in a bag, and how many trainees pass a test.
use Rattle.std.specs.Prelude.{◌≡◌, ℕ, zero, suc, ◌+◌, ◌≤◌, Bool, false, cond, List, [], ◌∷◌, length, ◌==◌}

abbrev pub times : ℕ → List ℕ → ℕ
times k [] = 0
times k (x ∷ xs) = cond (x == k) 1 0 + times k xs

-- the sum of f over the numbers below n
abbrev pub total : ℕ → (ℕ → ℕ) → ℕ
total zero f = 0
total (suc n) f = total n f + f n

-- how many numbers below n pass a test
abbrev pub passing : ℕ → (ℕ → Bool) → ℕ
passing n w = total n (λ k. cond (w k) 1 0)

-- a bag that holds exactly those who pass, each once, is as large as their number
abbrev pub ThoseCounted : Type 0
ThoseCounted = (n : ℕ) (w : ℕ → Bool) (xs : List ℕ) → ((k : ℕ) → n ≤ k → w k ≡ false) → ((k : ℕ) → times k xs ≡ cond (w k) 1 0) → length xs ≡ passing n w
