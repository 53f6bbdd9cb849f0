-- What a bound deck prints is the outcome of its bytes.
use Rattle.std.proofs.Common.{◌≡◌, ℕ, List, [], ◌++◌, ap, ◌∙◌}
use Rattle.format.specs.declared.fault.Refusal.{Refusal}
use Rattle.intake.specs.Book.{Due}
use Rattle.rules.specs.Contents.{Content}
use Rattle.intake.specs.declared.counts.Counts.{Counts}
use Rattle.intake.specs.Firsts.{firsts}
use Rattle.intake.proofs.Fillings.{holds-firsts}
use Rattle.deck.specs.Alike.{Fits}
use Rattle.listing.specs.Lines.{line_of_refusal, text_of_deck}
use Rattle.listing.specs.Outcomes.{Outcome}
use Rattle.listing.specs.Outcomes.Outcome.{is_dealt, is_refused}
use Rattle.listing.specs.Print.{Grew}

pub dealt_text : (all bytes out blank done : List ℕ) (c : Counts) (t x : Content) → Fits all c t → bytes ≡ all → x ≡ firsts c t →
    blank ≡ [] → Grew blank done (text_of_deck bytes x) → out ≡ done → Outcome all out
dealt_text all bytes out blank done c t x f e g b w o =
    let h = f.1 in
    is_dealt h.0 h.1
    (o ∙ w.is ∙ ap (λ (l : List ℕ). l ++ text_of_deck bytes x) b ∙ ap (λ (l : List ℕ). text_of_deck l x) e ∙ ap (λ (y : Content). text_of_deck all y) (g ∙ holds-firsts _ _ _ h.2))

-- what a refusal prints is its line
pub refused_line : (out blank done : List ℕ) (x y : Refusal) → y ≡ x → blank ≡ [] → Grew blank done (line_of_refusal y) → out ≡ done → out ≡ line_of_refusal x
refused_line out blank done x y e b w o = o ∙ w.is ∙ ap (λ (l : List ℕ). l ++ line_of_refusal y) b ∙ ap line_of_refusal e

-- and so the outcome of its bytes, where it is due
pub refused_text : (all out blank done : List ℕ) (x y : Refusal) → Due all x → y ≡ x → blank ≡ [] → Grew blank done (line_of_refusal y) → out ≡ done
    → Outcome all out
refused_text all out blank done x y d e b w o = is_refused x d (refused_line out blank done x y e b w o)
