-- What is printed of any bytes: the line of the refusal that is due, or the text of the deck that they spell.
use Rattle.std.specs.Prelude.{◌≡◌, ℕ, List}
use Rattle.format.specs.declared.fault.Refusal.{Refusal}
use Rattle.intake.specs.Rows.{Row, Spells, listed}
use Rattle.intake.specs.Book.{Due}
use Rattle.listing.specs.Lines.{line_of_refusal, text_of_deck}

pub data Outcome (all out : List ℕ) : Type 0 where
  is_refused : (x : Refusal) → Due all x → out ≡ line_of_refusal x → Outcome all out
  is_dealt : (rs : Row) → Spells all rs → out ≡ text_of_deck all (listed rs) → Outcome all out
