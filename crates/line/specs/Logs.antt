-- Entries of the log.
use Rattle.std.specs.Prelude.{ℕ}
use Rattle.line.specs.declared.log.TurnedDown.{TurnedDown}

abbrev pub noted : ℕ → ℕ → TurnedDown
noted k n = record { contract = k; offers = n }
