-- What `choose` and `why` answer.
use Rattle.std.specs.Prelude.{◌≡◌, ℕ, ◌<◌, Bool, cond, List, length, Ok, Err, Result}
use Rattle.matching.specs.Sets.{Set}
use Rattle.matching.specs.Choices.{Choice}
use Rattle.board.specs.declared.unfit.Unfit.{Unfit}
use Rattle.board.specs.Marks.{member, marked}
use Rattle.board.specs.Refusals.{number, asks_marks, asks_contract}

-- `choose`, over n contracts: the marks become those of what is kept of them, or stay
abbrev pub Chosen : Choice → ℕ → List ℕ → List ℕ → Result Unit Unfit → Type 0
Chosen kept n before after (Ok x) = (length before ≡ n) × (after ≡ marked n (kept (member before)))
Chosen kept n before after (Err e) = (number e ≡ asks_marks n (length before)) × (after ≡ before)

-- the pair for the contract k of the list X: (0, 0) if it is kept, (1, 0) if it is not in X, else the reason
abbrev pub said : Choice → (Set → ℕ → ℕ × ℕ) → Set → ℕ → ℕ × ℕ
said kept reason X k = cond (X k) (cond (kept X k) (0, 0) (reason X k)) (1, 0)

-- `why`, over n contracts
abbrev pub Explained : Choice → (Set → ℕ → ℕ × ℕ) → ℕ → List ℕ → ℕ → Result (ℕ × ℕ) Unfit → Type 0
Explained kept reason n marks k (Ok w) = (length marks ≡ n) × (k < n) × (w ≡ said kept reason (member marks) k)
Explained kept reason n marks k (Err e) = number e ≡ asks_contract n (length marks) k

-- whether the contract k is in the list, over n contracts, where `why` may ask so
abbrev pub Asked : ℕ → List ℕ → ℕ → Result Bool Unfit → Type 0
Asked n marks k (Ok b) = (length marks ≡ n) × (k < n) × (b ≡ member marks k)
Asked n marks k (Err e) = number e ≡ asks_contract n (length marks) k

-- whether the marks fit a deck of n contracts
abbrev pub Fitting : ℕ → List ℕ → Result Unit Unfit → Type 0
Fitting n marks (Ok x) = length marks ≡ n
Fitting n marks (Err e) = number e ≡ asks_marks n (length marks)
