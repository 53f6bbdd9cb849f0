-- The number of a refusal.
use Rattle.std.specs.Prelude.{ℕ}
use Rattle.strip.specs.declared.row.Full.{Full}
use Rattle.strip.specs.declared.row.Full.TheVariants.{NoPlace}

abbrev pub number : Full → ℕ
number NoPlace = 27
