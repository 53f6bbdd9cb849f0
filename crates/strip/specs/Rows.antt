-- What a strip holds.
use Rattle.std.specs.Prelude.{ℕ, ◌+◌, List, length}

-- its items, the oldest first, and how many places are free
pub record Held (X : Type 0) : Type 0 where
  pub items : List X
  pub free : ℕ

-- its items, the oldest first, and how many places there are for them
pub record Row (X : Type 0) : Type 0 where
  pub items : List X
  pub places : ℕ

-- the same places with other items
abbrev pub holding : {X : Type 0} → Row X → List X → Row X
holding r xs = record { items = xs; places = r.places }

-- each place has an item or is free
abbrev pub as_row : {X : Type 0} → Held X → Row X
as_row h = record { items = h.items; places = length h.items + h.free }
