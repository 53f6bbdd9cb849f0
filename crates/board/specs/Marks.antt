-- Marks: a list of contracts as bytes, one for each contract of a deck.
use Rattle.std.specs.Prelude.{◌≡◌, ℕ, ◌<◌, Bool, true, cond, not, ◌&&◌, List, map, length, ◌==◌, slice_index}
use Rattle.std.specs.List.{range_with_len}
use Rattle.matching.specs.Sets.{Set}

-- what marks mean: zero is out, any other byte is in
abbrev pub member : List ℕ → Set
member xs k = not (slice_index xs k == 0)

-- what is written for a list over n contracts: 0 and 1
abbrev pub marked : ℕ → Set → List ℕ
marked n X = map (λ k. cond (X k) 1 0) (range_with_len 0 n)

-- at each place 1 stands for a contract of which the closure f said so, and 0 for any other and for what was not in the list
abbrev pub KeptBy : {F : Type 0} → (F → ℕ → Bool → Type 0) → F → List ℕ → List ℕ → Type 0
KeptBy post f before after =
    (k : ℕ) → k < length before → (b : Bool) × (member before k ≡ true → post f k b) × (slice_index after k ≡ cond (member before k && b) 1 0)

-- below n the closure f can answer nothing but what the test p says
abbrev pub AnswersAs : {F : Type 0} → (F → ℕ → Bool → Type 0) → F → ℕ → Set → Type 0
AnswersAs post f n p = (k : ℕ) (b : Bool) → k < n → post f k b → b ≡ p k
