-- The number, the place and the layer of a fault of the deck layer.
use Rattle.std.specs.Prelude.{ℕ}
use Rattle.format.specs.declared.fault.Layer.TheVariants as L
use Rattle.format.specs.declared.fault.Refusal.{Refusal}
use Rattle.format.specs.Refusals.{refusal_by}
use Rattle.rules.specs.declared.fault.RecordFault.{RecordFault}
use Rattle.rules.specs.Refusals.{record_refusal}
use Rattle.intake.specs.declared.fault.DeckFault.{DeckFault}
use Rattle.intake.specs.declared.fault.DeckFault.TheVariants.{Records, SmallTable, TooLong, WrongCount, Trailing, OtherTables}

-- a refusal by this layer, with its number and place
abbrev pub by_deck : ℕ → ℕ → Refusal
by_deck = refusal_by L.Deck

abbrev pub deck_fault_of : RecordFault → DeckFault
deck_fault_of f = Records f

abbrev pub refusal : DeckFault → Refusal
refusal (Records f) = record_refusal f
refusal SmallTable = by_deck 1 0
refusal TooLong = by_deck 2 0
refusal (WrongCount p) = by_deck 10 p
refusal (Trailing p) = by_deck 11 p
refusal OtherTables = by_deck 12 0
