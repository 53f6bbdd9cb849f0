-- The deck that a row of lawful records gives.
use Rattle.std.specs.Prelude.{◌≡◌, ℕ, List}
use Rattle.rules.specs.Contents.{Content}
use Rattle.intake.specs.Rows.{Row, Spells, listed}

-- a lawful row spells these bytes, and these are its entries
abbrev pub Deals : List ℕ → Content → Type 0
Deals all t = (rs : Row) × Spells all rs × (listed rs ≡ t)
