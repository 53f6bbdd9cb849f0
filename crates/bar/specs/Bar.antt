-- What a layer of bars bars.
use Rattle.std.specs.Prelude.{List, length}
use Rattle.rules.specs.declared.table.Barring.{Barring}
use Rattle.rules.specs.Contents.{Content}
use Rattle.matching.specs.Sets.{Set}
use Rattle.matching.specs.Choices.{Choice, KeepsPart, Substitutable, Irrelevant, Lawful, without}
use Rattle.matching.proofs.Made.{without-lawful}
use Rattle.board.specs.Decks.{OfDeck}
use Rattle.bar.specs.declared.bar.Bar.{Bar}
use Rattle.bar.specs.declared.bars.Bars.{Bars}
use Rattle.bar.specs.Bars.{barred}

-- the pairs that are barred
abbrev pub pairs_of : Bars → List Barring
pairs_of s = s.pairs.items

-- the pairs that a layer bars
abbrev pub bars_of : {C : Type 0} → Bar C → List Barring
bars_of s = pairs_of s.bars

-- the contracts of these tables that it bars
abbrev pub barred_by : {C : Type 0} → Bar C → Content → Set
barred_by s t = barred (bars_of s) t.contracts

-- a layer of bars is lawful where the board below is
module _ {C : Type 0} {kept : C → Content → Choice}
    (part : (b : C) (t : Content) → OfDeck t → KeepsPart (length t.contracts) (kept b t))
    (substitutable : (b : C) (t : Content) → OfDeck t → Substitutable (length t.contracts) (kept b t))
    (irrelevant : (b : C) (t : Content) → OfDeck t → Irrelevant (length t.contracts) (kept b t)) where
  pub bar-lawful : (s : Bar C) (t : Content) → OfDeck t → Lawful (length t.contracts) (without (barred_by s t) (kept s.below t))
  bar-lawful s t o = without-lawful _ _ _ (record { part = part s.below t o; substitutable = substitutable s.below t o; irrelevant = irrelevant s.below t o })
