-- From where contracts are stopped to what is kept.
use Rattle.std.proofs.Common.{◌≡◌, ℕ, ◌<◌, cond, ◌&&◌, List, length, get_or, None, Option, is_none, sym, ap, ◌∙◌, ⊎_elim, arith}
use Rattle.std.proofs.lemmas.Bool.{and_left, cases_Bool}
use Rattle.rules.specs.declared.table.Contract.{Contract}
use Rattle.matching.specs.Sets.{common}
use Rattle.board.specs.Marks.{member, marked}
use Rattle.board.proofs.Marking.{length_marked, get_or-marked, marked_from}
use Rattle.quota.specs.declared.row.Row.{Row}
use Rattle.quota.specs.Caps.{quota}
use Rattle.quota.specs.Walk.{Told}

module _ (rows : List Row) (cs : List Contract) (marks : List ℕ) (stops : List (Option ℕ)) (long : length marks ≡ length cs) (told : Told rows cs (member marks) stops) where
  unstopped_is : (k : ℕ) → k < length cs → common (member marks) (λ j. is_none (get_or stops j None)) k ≡ quota rows cs (member marks) k
  unstopped_is k l = ⊎_elim (λ x. ap (λ s. member marks k && is_none s) (told k l x)) (λ x. and_left _ _ x ∙ sym (and_left _ _ x)) (cases_Bool (member marks k))

  pub kept_are : marked (length marks) (common (member marks) (λ j. is_none (get_or stops j None))) ≡ marked (length cs) (quota rows cs (member marks))
  kept_are = marked_from (quota rows cs (member marks)) (length cs) (marked (length marks) (common (member marks) (λ j. is_none (get_or stops j None)))) (length_marked _ _ ∙ long)
      (λ j l. get_or-marked _ _ j (omega arith) ∙ ap (λ b. cond b 1 0) (unstopped_is j l))
