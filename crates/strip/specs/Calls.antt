-- What the calls answer, and the row that they leave.
use Rattle.std.specs.Prelude.{◌≡◌, ℕ, ◌<◌, ◌≤◌, [], ◌∷◌, ◌++◌, length, Some, None, Ok, Err, Option, Result, slice_index_or}
use Rattle.strip.specs.declared.row.Full.{Full}
use Rattle.strip.specs.Refusals.{number}
use Rattle.strip.specs.Rows.{Row, holding}

-- x goes to the new end where a place is free; else 27, and all is kept
abbrev pub Put : {X : Type 0} → Row X → X → Result (Unit {0}) Full → Row X → Type 0
Put before x (Ok u) after = (length before.items < before.places) × (after ≡ holding before (before.items ++ x ∷ []))
Put before x (Err e) after = (length before.items ≡ before.places) × (number e ≡ 27) × (after ≡ before)

-- the oldest is taken; none from an empty strip
abbrev pub TakeOldest : {X : Type 0} → Row X → Option X → Row X → Type 0
TakeOldest before None after = (before.items ≡ []) × (after ≡ before)
TakeOldest before (Some x) after = before ≡ holding after (x ∷ after.items)

-- the newest is taken
abbrev pub TakeNewest : {X : Type 0} → Row X → Option X → Row X → Type 0
TakeNewest before None after = (before.items ≡ []) × (after ≡ before)
TakeNewest before (Some x) after = before ≡ holding after (after.items ++ x ∷ [])

-- the item with the number k; none past the count
abbrev pub Read : {X : Type 0} → Row X → ℕ → Option X → Type 0
Read row k None = length row.items ≤ k
Read row k (Some x) = (k < length row.items) × (x ≡ slice_index_or row.items k x)
