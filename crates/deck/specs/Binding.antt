-- What bind answers, and the deck that it leaves.
use Rattle.std.specs.Prelude.{◌≡◌, ℕ, List, Ok, Err, Result}
use Rattle.rules.specs.Contents.{Content}
use Rattle.intake.specs.declared.counts.Counts.{Counts}
use Rattle.intake.specs.declared.fault.DeckFault.{DeckFault}
use Rattle.intake.specs.Firsts.{firsts}
use Rattle.intake.specs.Refusals.{by_deck, refusal}
use Rattle.deck.specs.declared.deck.Deck.{Deck}
use Rattle.deck.specs.Alike.{Fits}
use Rattle.deck.specs.Contents.{bytes_of, data_of}

-- the deck of these bytes and of the entries that are counted; else 12, and the deck d stays
abbrev pub Bound : List ℕ → Counts → Content → Deck → Deck → Result Unit DeckFault → Type 0
Bound all c t d d' (Ok _) = Fits all c t × (bytes_of d' ≡ all) × (data_of d' ≡ firsts c t)
Bound all c t d d' (Err f) = (Fits all c t → ⊥) × (refusal f ≡ by_deck 12 0) × (d' ≡ d)
