-- Choosing again, and choosing of two lists at once, by way of their shortlists.
use Rattle.std.specs.Prelude.{◌≡◌, ℕ, cond, ◌&&◌, List, length, Ok, Err, Result, ◌==◌}
use Rattle.matching.specs.Sets.{union}
use Rattle.matching.specs.Choices.{Choice}
use Rattle.board.specs.declared.unfit.Unfit.{Unfit}
use Rattle.board.specs.Marks.{member, marked}
use Rattle.board.specs.Refusals.{number}
use Rattle.board.specs.Calls.{Chosen}

-- are both stretches of marks as long as the deck has contracts? 31; 0 is no refusal
abbrev pub asks_both : ℕ → ℕ → ℕ → ℕ
asks_both n a b = cond (a == n && b == n) 0 31

-- over n contracts: xs become the marks of what is kept of both lists joined, and ys those of what is kept of ys alone; or both stay
abbrev pub Shortlisted : Choice → ℕ → List ℕ → List ℕ → List ℕ → List ℕ → Result Unit Unfit → Type 0
Shortlisted kept n xs ys xs' ys' (Ok x) =
    (length xs ≡ n) × (length ys ≡ n) × (xs' ≡ marked n (kept (union (member xs) (member ys)))) × (ys' ≡ marked n (kept (member ys)))
Shortlisted kept n xs ys xs' ys' (Err e) = (number e ≡ asks_both n (length xs) (length ys)) × (xs' ≡ xs) × (ys' ≡ ys)

-- the marks are the shortlist of xs
abbrev pub Shortlist : Choice → ℕ → List ℕ → List ℕ → Type 0
Shortlist kept n xs marks = (length xs ≡ n) × (marks ≡ marked n (kept (member xs)))

-- where the marks were the shortlist of a list, the call answers as `choose` would on that list
abbrev pub Again : Choice → ℕ → List ℕ → List ℕ → Result Unit Unfit → Type 0
Again kept n before after r = (xs : List ℕ) → Shortlist kept n xs before → Chosen kept n xs after r

-- where the marks were two shortlists
abbrev pub Joined : Choice → ℕ → List ℕ → List ℕ → List ℕ → Result Unit Unfit → Type 0
Joined kept n first second after r =
    (xs ys : List ℕ) → Shortlist kept n xs first → Shortlist kept n ys second → Shortlisted kept n xs ys after second r
