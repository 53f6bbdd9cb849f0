-- Whatever is answered as the rules have it is the one verdict.
use Rattle.std.proofs.Common.{◌≡◌, rules, ℕ, List, Ok, Err, Result, refl, sym, subst, false, is_err, MatchResult, IsErrAnd, ◌∙◌}
use Rattle.std.proofs.lemmas.Bool.{false≢true}
use Rattle.std.proofs.lemmas.List.{length-replicate}
use Rattle.format.specs.declared.fault.Refusal.{Refusal}
use Rattle.rules.specs.Contents.{Content}
use Rattle.intake.specs.declared.counts.Counts.{Counts}
use Rattle.intake.specs.declared.fault.DeckFault.{DeckFault}
use Rattle.intake.specs.Refusals.{refusal}
use Rattle.intake.specs.Book.{Due, Fills, Answers, Verdict, Judged}
use Rattle.intake.specs.Fillings.{Roomy, SameLengths, blanks}
use Rattle.intake.proofs.Unique.{not_both, one_refusal}
use Rattle.intake.proofs.Fillings.{blanks_same}

pub verdict : (all : List ℕ) (t t' : Content) (r : Result Counts DeckFault) → Answers all t t' r → Verdict all r
verdict all t t' (Ok c) h = record {
  accepts = ((λ x. (h.0, h.1)), (λ x. (c, refl)));
  refuses = λ x. ((λ z. absurd z), (λ d. not_both all h.0 x h.1 d));
  not_both = not_both all;
  one_refusal = one_refusal all;
}
verdict all t t' (Err f) h = record {
  accepts = ((λ x. absurd (let e = x.1 in search rules)), (λ x. absurd (not_both all x.0 (refusal f) x.1 h.0)));
  refuses = λ x. ((λ e. subst (λ (y : Refusal). Due all y) e h.0), (λ d. one_refusal all (refusal f) x h.0 d));
  not_both = not_both all;
  one_refusal = one_refusal all;
}

-- what is answered and left where the tables are large enough
pub judged : (all : List ℕ) (t t' : Content) (r : Result Counts DeckFault) → Roomy t → Answers all t t' r → Judged all t t' r
judged all t t' r y h = record { small = λ n. absurd (n y); large = λ _. (h, verdict all t t' r h) }

-- so of a refusal whose tables are left blank
pub judged_refused : (all : List ℕ) (t w : Content) (r : Result Counts DeckFault) → Roomy t → SameLengths t w → w ≡ blanks w → IsErrAnd r (λ f. Due all (refusal f)) → Judged all t w r
judged_refused all t w (Ok c) y h b d = absurd d
judged_refused all t w (Err f) y h b d = judged all t w (Err f) y (d, b ∙ blanks_same t w h)

-- and of the counts of tables that are filled
pub judged_counts : (all : List ℕ) (t w : Content) (r : Result Counts DeckFault) → is_err r ≡ false → Roomy t
    → MatchResult r (λ c. Fills all c w) (λ f. Due all (refusal f)) → Judged all t w r
judged_counts all t w (Ok c) e y h = judged all t w (Ok c) y h
judged_counts all t w (Err f) e y h = absurd (false≢true (sym e))

-- both, with the length that blank tables keep
pub ruleset judging = (judged_refused, judged_counts, length-replicate)
