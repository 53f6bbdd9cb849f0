-- A table that goes on blank where another ends.
use Rattle.std.specs.Prelude.{◌≡◌, ℕ, ◌-◌, ◌≤◌, List, ◌++◌, length, drop, replicate}
use Rattle.rules.specs.Contents.{Content, zero_group, zero_seat, zero_reservation, zero_trainee, zero_contract, zero_barring}
use Rattle.intake.specs.declared.counts.Counts.{Counts}
use Rattle.intake.specs.Book.{Fills}
use Rattle.intake.specs.Fillings.{Roomy}

-- ys begins with xs
pub record Front {A : Type 0} (xs ys : List A) : Type 0 where
  pub long : length xs ≤ length ys
  pub same : ys ≡ xs ++ drop (length xs) ys

-- ys is xs, and blanks after it
pub record Extends {A : Type 0} (d : A) (xs ys : List A) : Type 0 where
  pub long : length xs ≤ length ys
  pub same : ys ≡ xs ++ replicate (length ys - length xs) d

-- the counts are the same, and each given table is the other, and blank after it
pub record Matches (own : Content) (had : Counts) (given : Content) (said : Counts) : Type 0 where
  pub counts : had ≡ said
  pub groups : Extends zero_group own.groups given.groups
  pub seats : Extends zero_seat own.seats given.seats
  pub reserves : Extends zero_reservation own.reserves given.reserves
  pub trainees : Extends zero_trainee own.trainees given.trainees
  pub contracts : Extends zero_contract own.contracts given.contracts
  pub bars : Extends zero_barring own.bars given.bars

-- intake of these bytes leaves just these tables and answers these counts
abbrev pub Fits : List ℕ → Counts → Content → Type 0
Fits all c t = Roomy t × Fills all c t
