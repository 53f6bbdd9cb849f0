-- The facts of the deck that a lawful row gives, the deck of E alone, and the entries that are counted.
use Rattle.std.proofs.Common.{ℕ, List, sym, subst}
use Rattle.rules.specs.Contents.{Content}
use Rattle.intake.specs.Rows.{ended, listed}
use Rattle.intake.proofs.Rows.{Few, few}
use Rattle.deck.specs.Lawful.{Deals}
use Rattle.deck.proofs.Sound.{Sound, sound}

pub dealt_sound : (all : List ℕ) (t : Content) → Deals all t → Sound all t
dealt_sound all t d =
    subst (λ (x : Content). Sound all x) d.2 (subst (λ (b : List ℕ). Sound b (listed d.0)) (sym d.1.bytes_are) (sound (ended d.0) d.1.passes))

pub dealt_few : (all : List ℕ) (t : Content) → Deals all t → Few t
dealt_few all t d = subst Few d.2 (few d.0 d.1.passes.0)
