-- A ring in a list of places.
use Rattle.std.specs.Prelude.{◌≡◌, ℕ, ◌+◌, ◌-◌, ◌<◌, ◌≤◌, ◌⊎◌, List, ◌++◌, take, drop, length}
use Rattle.strip.specs.Rows.{Held, Row}

-- the `count` elements of the memory from `head` on, going round its end
unfoldable pub ringed : {X : Type 0} → List X → ℕ → ℕ → List X
ringed memory head count = take count (drop head (memory ++ memory))

-- `at` is the index k places on from `head` in a ring of n places
abbrev pub Spot : ℕ → ℕ → ℕ → ℕ → Type 0
Spot n head k at = (at < n) × ((at ≡ head + k) ⊎ (at + n ≡ head + k))

-- head and count lie inside the memory
pub record Ringed {X : Type 0} (memory : List X) (head count : ℕ) : Type 0 where
  pub head_inside : head ≤ length memory
  pub count_inside : count ≤ length memory

abbrev pub row_of : {X : Type 0} → List X → ℕ → ℕ → Row X
row_of memory head count = record { items = ringed memory head count; places = length memory }

-- the free places are those of the memory that no element takes
abbrev pub held_of : {X : Type 0} → List X → ℕ → ℕ → Held X
held_of memory head count = record { items = ringed memory head count; free = length memory - count }
