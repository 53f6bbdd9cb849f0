-- The tables of decks.
use Rattle.std.specs.Prelude.{ℕ, List}
use Rattle.rules.specs.Contents.{Content}
use Rattle.deck.specs.Lawful.{Deals}

-- a row of lawful records gives these tables, as every deck's invariant says of its own
abbrev pub OfDeck : Content → Type 0
OfDeck t = (all : List ℕ) × ∥ Deals all t ∥₁
