-- Choosing twice, and choosing of shortlists.
use Rattle.std.proofs.Common.{sym, ⊎_elim}
use Rattle.std.proofs.lemmas.Bool.{or_cases, or_left, or_right, cases_Bool, both_ways}
use Rattle.matching.specs.Sets.{union, Part, Within}
use Rattle.matching.specs.Facts.{Settled, PathIndependent}

pub settled : Settled
settled n kept law X w = law.irrelevant X (kept X) w (law.part X w) (λ k h. h)

pub path_independent : PathIndependent
path_independent n kept law X Y wx wy = sym (law.irrelevant (union X Y) (union (kept X) (kept Y)) w small all)
  where
    w : Within n (union X Y)
    w k h = ⊎_elim (λ a. wx k a) (λ a. wy k a) (or_cases (X k) (Y k) h)

    small : Part (union (kept X) (kept Y)) (union X Y)
    small k h = ⊎_elim (λ a. or_left _ _ (law.part X wx k a)) (λ a. or_right _ _ (law.part Y wy k a)) (or_cases (kept X k) (kept Y k) h)

    all : Part (kept (union X Y)) (union (kept X) (kept Y))
    all k h = ⊎_elim
        (λ x. ⊎_elim (λ a. or_left _ _ a) (λ a. absurd (both_ways _ (law.substitutable X (union X Y) w (λ j e. or_left _ _ e) k x a) h)) (cases_Bool (kept X k)))
        (λ y. ⊎_elim (λ a. or_right _ _ a) (λ a. absurd (both_ways _ (law.substitutable Y (union X Y) w (λ j e. or_right _ _ e) k y a) h)) (cases_Bool (kept Y k)))
        (or_cases (X k) (Y k) (law.part (union X Y) w k h))
