-- A lawful choice, made again, and made of two shortlists.
use Rattle.std.proofs.Common.{◌≡◌, ℕ, ◌<◌, cond, List, length, get_or, Ok, Err, Result, sym, ap, ◌∙◌, ⊎_elim}
use Rattle.std.proofs.Math.Bool.{or_comm}
use Rattle.std.proofs.Math.Path.{fun_ext}
use Rattle.std.proofs.lemmas.Bool.{or_cases}
use Rattle.matching.specs.Sets.{Set, union, Within}
use Rattle.matching.specs.Choices.{Choice, Lawful}
use Rattle.matching.proofs.Paths.{settled, path_independent}
use Rattle.matching.proofs.Sets.{within_part}
use Rattle.board.specs.declared.unfit.Unfit.{Unfit}
use Rattle.board.specs.Marks.{member, marked}
use Rattle.board.specs.Calls.{Chosen}
use Rattle.board.proofs.Marking.{member-within, member-marked, length_marked, put}
use Rattle.board.proofs.Through.{marks_fit}
use Rattle.guest.specs.Shortlists.{Shortlisted}

small : (n : ℕ) (f : Choice) → Lawful n f → (X : Set) → Within n X → Within n (f X)
small n f law X w = within_part n (f X) X w (law.part X w)

pub chosen_twice : (f : Choice) (n : ℕ) → Lawful n f → (before mid after : List ℕ) (r : Result Unit Unfit)
    → (length before ≡ n) × (mid ≡ marked n (f (member before))) → Chosen f n mid after r → Chosen f n before after r
chosen_twice f n law before mid after (Ok x) h c = (h.0, c.1 ∙ ap (λ (X : Set). marked n (f X)) seen ∙ ap (marked n) (settled n f law (member before) w))
  where
    w : Within n (member before)
    w = member-within before n h.0

    seen : member mid ≡ f (member before)
    seen = ap member h.1 ∙ member-marked n (f (member before)) (small n f law (member before) w)
chosen_twice f n law before mid after (Err e) h c = absurd (marks_fit n mid e (ap length h.1 ∙ length_marked n (f (member before))) c.0)

union_flip : (X Y : Set) → union X Y ≡ union Y X
union_flip X Y = fun_ext (λ k. or_comm (X k) (Y k))

-- one shortlist put into the other, and chosen of again
pub shortlisted : (f : Choice) (n : ℕ) → Lawful n f → (xs ys xs1 ys1 joined after : List ℕ) (r : Result Unit Unfit)
    → (length xs ≡ n) × (xs1 ≡ marked n (f (member xs))) → (length ys ≡ n) × (ys1 ≡ marked n (f (member ys)))
    → length joined ≡ length xs1 → ((k : ℕ) → k < length xs1 → get_or joined k 0 ≡ cond (member ys1 k) 1 (get_or xs1 k 0))
    → Chosen f n joined after r → Shortlisted f n xs ys after ys1 r
shortlisted f n law xs ys xs1 ys1 joined after r a b l h c = at r c
  where
    wx : Within n (member xs)
    wx = member-within xs n a.0

    wy : Within n (member ys)
    wy = member-within ys n b.0

    long : length xs1 ≡ n
    long = ap length a.1 ∙ length_marked n (f (member xs))

    seen : member ys1 ≡ f (member ys)
    seen = ap member b.1 ∙ member-marked n (f (member ys)) (small n f law (member ys) wy)

    both : joined ≡ marked n (union (f (member ys)) (f (member xs)))
    both = put (f (member ys)) (f (member xs)) n xs1 joined a.1 (l ∙ long)
        (λ k i. h k (rw long i) ∙ ap (λ (Y : Set). cond (Y k) 1 (get_or xs1 k 0)) seen)

    w : Within n (union (f (member ys)) (f (member xs)))
    w k e = ⊎_elim (λ i. small n f law (member ys) wy k i) (λ i. small n f law (member xs) wx k i) (or_cases (f (member ys) k) (f (member xs) k) e)

    read : member joined ≡ union (f (member xs)) (f (member ys))
    read = ap member both ∙ member-marked n (union (f (member ys)) (f (member xs))) w ∙ union_flip (f (member ys)) (f (member xs))

    at : (r : Result Unit Unfit) → Chosen f n joined after r → Shortlisted f n xs ys after ys1 r
    at (Ok x) c =
        (a.0, b.0, c.1 ∙ ap (λ (X : Set). marked n (f X)) read ∙ ap (marked n) (sym (path_independent n f law (member xs) (member ys) wx wy)), b.1)
    at (Err e) c = absurd (marks_fit n joined e (l ∙ long) c.0)
