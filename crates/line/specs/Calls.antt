-- What the calls of a line answer, and who waits after them.
use Rattle.std.specs.Prelude.{◌≡◌, ℕ, ◌+◌, ◌<◌, ◌≤◌, List, [], ◌∷◌, ◌++◌, length, Some, None, Ok, Err, Option, Result}
use Rattle.moves.specs.Moves.{Move, Joins, Takes, AllJoin}
use Rattle.strip.specs.declared.row.Full.{Full}
use Rattle.strip.specs.Refusals.{number}
use Rattle.strip.specs.Rows.{Row}

-- t joins where a place is free, and the places stay; else 27, and all is kept
abbrev pub Joined : Move → Row ℕ → ℕ → Result (Unit {0}) Full → Row ℕ → Type 0
Joined joins before t (Ok u) after = (length before.items < before.places) × Joins joins before.items t after.items × (after.places ≡ before.places)
Joined joins before t (Err e) after = (before.places ≤ length before.items) × (number e ≡ 27) × (after ≡ before)

-- one who waits is taken, and just that one is gone; none exactly when nobody waits
abbrev pub Taken : Move → Row ℕ → Option ℕ → Row ℕ → Type 0
Taken takes before None after = (before.items ≡ []) × (after ≡ before)
Taken takes before (Some t) after = Takes takes before.items t after.items × (after.places ≡ before.places)

-- all of ts join in order where there are places for them; else 27, and all is kept
abbrev pub AllJoined : Move → Row ℕ → List ℕ → Result (Unit {0}) Full → Row ℕ → Type 0
AllJoined joins before ts (Ok u) after = (length ts + length before.items ≤ before.places) × AllJoin joins before.items ts after.items × (after.places ≡ before.places)
AllJoined joins before ts (Err e) after = (before.places < length ts + length before.items) × (number e ≡ 27) × (after ≡ before)

-- a queue and a stack put at the new end
abbrev pub at_end : Move
at_end xs t ys = ys ≡ xs ++ t ∷ []

-- a queue takes the oldest
abbrev pub the_oldest : Move
the_oldest xs t ys = xs ≡ t ∷ ys

-- a stack takes the newest
abbrev pub the_newest : Move
the_newest xs t ys = xs ≡ ys ++ t ∷ []
