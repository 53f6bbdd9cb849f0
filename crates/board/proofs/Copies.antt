-- Writing all marks of a copy.
use Rattle.std.proofs.Common.{◌≡◌, ℕ, ◌<◌, Bool, true, not, ◌&&◌, cond, List, length, get_or, subst, ◌∙◌, ap, arith}
use Rattle.std.specs.List.{refill}
use Rattle.std.proofs.lemmas.Bool.{and_parts}
use Rattle.std.proofs.lemmas.Grind.{common_steps}
use Rattle.matching.specs.Sets.{Set, common, minus}
use Rattle.board.specs.Marks.{member, marked}
use Rattle.board.proofs.Marking.{length_marked, member-within, member-marked}

-- as many marks as there were are all that is there afterwards
pub refilled : (n : ℕ) (xs ws : List ℕ) → length ws ≡ n → refill n xs ws ≡ ws
refilled n xs ws e = grind (arith, common_steps)

-- what a test keeps of marks
pub kept_common : (p : Set) (n : ℕ) (xs ys : List ℕ) → length xs ≡ n → ys ≡ marked n (common (member xs) p) → member ys ≡ common (member xs) p
kept_common p n xs ys l e =
    ap member e ∙ member-marked n (common (member xs) p) (λ k h. member-within xs n l k (and_parts (member xs k) (p k) h).0)

-- where just what is not in B was kept, B is struck
pub kept_without : (B : Set) (n : ℕ) (xs ys : List ℕ) → length xs ≡ n → ys ≡ marked n (common (member xs) (λ k. not (B k))) → member ys ≡ minus (member xs) B
kept_without B = kept_common (λ k. not (B k))

-- the same of a copy xs of the marks zs, where B was read for C
pub copied_without : (B C : Set) (m n : ℕ) (xs ys zs : List ℕ) → length xs ≡ m → m ≡ n → xs ≡ zs → B ≡ C → ys ≡ marked m (common (member xs) (λ k. not (B k)))
    → (length ys ≡ n) × (member ys ≡ minus (member zs) C)
copied_without B C m n xs ys zs l e s b h =
    (ap length h ∙ length_marked m (common (member xs) (λ k. not (B k))) ∙ e, kept_without B m xs ys l h ∙ ap (λ (us : List ℕ). minus (member us) B) s ∙ ap (λ (D : Set). minus (member zs) D) b)

-- xs are the marks, ds what was lent of them, and ws what came back
pub each_kept : {P : ℕ → Bool → Type 0} (xs ds ws : List ℕ) → ds ≡ xs → length ws ≡ length ds
    → ((k : ℕ) → k < length ds → (b : Bool) × (member ds k ≡ true → P k b) × (get_or ws k 0 ≡ cond (member ds k && b) 1 0))
    → (k : ℕ) → k < length xs → (b : Bool) × (member xs k ≡ true → P k b) × (get_or (refill (length xs) xs ws) k 0 ≡ cond (member xs k && b) 1 0)
each_kept {P = P} xs ds ws e m h =
    subst (λ (zs : List ℕ). (k : ℕ) → k < length zs → (b : Bool) × (member zs k ≡ true → P k b) × (get_or (refill (length zs) zs ws) k 0 ≡ cond (member zs k && b) 1 0)) e
    (λ k l. let w = h k l in (w.0, w.1, ap (λ ys. get_or ys k 0) (refilled (length ds) ds ws m) ∙ w.2))
