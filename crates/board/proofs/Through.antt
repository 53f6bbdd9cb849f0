-- What a board's calls promise through a layer on it.
use Rattle.std.proofs.Common.{◌≡◌, ℕ, ◌<◌, Bool, true, false, cond, not, ◌&&◌, ◌||◌, eqb, ltb, List, length, get_or, Ok, Err, Result, sym, ap, ◌∙◌, arith}
use Rattle.std.proofs.lemmas.Bool.{and_from, and_right, or_left, not_from_false, not_from_true, cond-true, cond-false, eq-eqb, lt-ltb}
use Rattle.matching.specs.Sets.{Set, minus}
use Rattle.matching.specs.Choices.{Choice, KeepsPart, without, over}
use Rattle.matching.proofs.Sets.{and_true, minus_of, out_of_part}
use Rattle.board.specs.declared.unfit.Unfit.{Unfit}
use Rattle.board.specs.declared.unfit.Unfit.TheVariants.{Marks, Contract}
use Rattle.board.specs.Marks.{member, marked}
use Rattle.board.specs.Refusals.{number, asks_marks, asks_contract}
use Rattle.board.specs.Calls.{Chosen, said, Explained}
use Rattle.board.proofs.Marking.{member-within, put, length_marked}

-- every refusal has a number
pub numbered : (e : Unfit) → number e ≡ 0 → ⊥
numbered Marks h = omega arith
numbered Contract h = omega arith

-- marks of the right length are not refused
pub marks_fit : (n : ℕ) (xs : List ℕ) (e : Unfit) → length xs ≡ n → number e ≡ asks_marks n (length xs) → ⊥
marks_fit n xs e l h = numbered e (h ∙ cond-true (eqb (length xs) n) 0 31 (eq-eqb (length xs) n l))

pub contract_fits : (n : ℕ) (xs : List ℕ) (k : ℕ) (e : Unfit) → length xs ≡ n → k < n → number e ≡ asks_contract n (length xs) k → ⊥
contract_fits n xs k e l m h =
    numbered e (h ∙ cond-true (eqb (length xs) n) (cond (ltb k n) 0 32) 31 (eq-eqb (length xs) n l) ∙ cond-true (ltb k n) 0 32 (lt-ltb k n m))

-- `choose` of the board below, on marks from which B was struck
pub chosen-without : (f : Choice) (B : Set) (n : ℕ) (before mid after : List ℕ) (r : Result Unit Unfit)
    → length before ≡ n → length mid ≡ length before → member mid ≡ minus (member before) B
    → Chosen f n mid after r → Chosen (without B f) n before after r
chosen-without f B n before mid after (Ok x) e l m c = (e, c.1 ∙ ap (λ X. marked n (f X)) m)
chosen-without f B n before mid after (Err x) e l m c = absurd (marks_fit n mid x (l ∙ e) c.0)

-- `why` of the board below, for a contract that was not struck
pub explained_without : (f : Choice) (R : Set → ℕ → ℕ × ℕ) (B : Set) (S : ℕ → ℕ × ℕ) (n : ℕ) (xs mid : List ℕ) (k : ℕ) (r : Result (ℕ × ℕ) Unfit)
    → length xs ≡ n → length mid ≡ n → k < n → member mid ≡ minus (member xs) B → member xs k ≡ true → B k ≡ false
    → Explained f R n mid k r → Explained (without B f) (λ X j. cond (B j) (S j) (R (minus X B) j)) n xs k r
explained_without f R B S n xs mid k (Ok w) lx lm h m x b e = (lx, h, e.2 ∙ ap (λ Z. said f R Z k) m ∙ same)
  where
    same : said f R (minus (member xs) B) k ≡ said (without B f) (λ X j. cond (B j) (S j) (R (minus X B) j)) (member xs) k
    same =
        cond-true (minus (member xs) B k) _ _ (and_from (member xs k) (not (B k)) x (not_from_false (B k) b))
        ∙ ap (λ q. cond (f (minus (member xs) B) k) (0, 0) q) (sym (cond-false (B k) (S k) (R (minus (member xs) B) k) b))
        ∙ sym (cond-true (member xs k) _ _ x)
explained_without f R B S n xs mid k (Err y) lx lm h m x b e = absurd (contract_fits n mid k y lm h e)

-- `why` of the board below, for a contract that is not in the part R of the list
pub explained_over : (R f : Choice) (S : Set → ℕ → ℕ × ℕ) (n : ℕ) (xs mid : List ℕ) (k : ℕ) (r : Result (ℕ × ℕ) Unfit)
    → length xs ≡ n → length mid ≡ n → k < n → member mid ≡ minus (member xs) (R (member xs)) → R (member xs) k ≡ false
    → Explained f S n mid k r → Explained (over R f) (λ X j. S (minus X (R X)) j) n xs k r
explained_over R f S n xs mid k (Ok w) lx lm h m b e = (lx, h, e.2 ∙ ap (λ Z. said f S Z k) m ∙ same)
  where
    same : said f S (minus (member xs) (R (member xs))) k ≡ said (over R f) (λ X j. S (minus X (R X)) j) (member xs) k
    same =
        ap (λ t. cond (member xs k && not t) (cond (f (minus (member xs) (R (member xs))) k) (0, 0) (S (minus (member xs) (R (member xs))) k)) (1, 0)) b
        ∙ ap (λ t. cond t (cond (f (minus (member xs) (R (member xs))) k) (0, 0) (S (minus (member xs) (R (member xs))) k)) (1, 0)) (and_true (member xs k))
        ∙ sym (ap (λ t. cond (member xs k) (cond (t || f (minus (member xs) (R (member xs))) k) (0, 0) (S (minus (member xs) (R (member xs))) k)) (1, 0)) b)
explained_over R f S n xs mid k (Err y) lx lm h m b e = absurd (contract_fits n mid k y lm h e)

-- what is said of a contract that was struck, which the board below never saw
pub explained_struck : (f : Choice) (R : Set → ℕ → ℕ × ℕ) (B : Set) (S : ℕ → ℕ × ℕ) (n : ℕ) (xs : List ℕ) (k : ℕ)
    → KeepsPart n f → length xs ≡ n → k < n → member xs k ≡ true → B k ≡ true
    → Explained (without B f) (λ X j. cond (B j) (S j) (R (minus X B) j)) n xs k (Ok (S k))
explained_struck f R B S n xs k p l h x b = (l, h, sym same)
  where
    unseen : f (minus (member xs) B) k ≡ false
    unseen =
        out_of_part (f (minus (member xs) B)) (minus (member xs) B) (p (minus (member xs) B) (λ j e. member-within xs n l j (minus_of (member xs) B j e))) k
        (and_right (member xs k) _ (not_from_true (B k) b))

    same : said (without B f) (λ X j. cond (B j) (S j) (R (minus X B) j)) (member xs) k ≡ S k
    same = cond-true (member xs k) _ _ x ∙ cond-false (f (minus (member xs) B) k) _ _ unseen ∙ cond-true (B k) _ _ b

-- what is said of a contract in the part R of the list
pub explained_first : (R f : Choice) (S : Set → ℕ → ℕ × ℕ) (n : ℕ) (xs : List ℕ) (k : ℕ)
    → length xs ≡ n → k < n → member xs k ≡ true → R (member xs) k ≡ true → Explained (over R f) S n xs k (Ok (0, 0))
explained_first R f S n xs k l h x r =
    (l, h, sym (cond-true (member xs k) _ _ x ∙ cond-true (over R f (member xs) k) (0, 0) (S (member xs) k) (or_left (R (member xs) k) _ r)))

-- a list that was read at k
pub read_at : (X Y : Set) (k : ℕ) (b : Bool) → X ≡ Y → b ≡ X k → Y k ≡ b
read_at X Y k b e h = ap (λ (Z : Set). Z k) (sym e) ∙ sym h

-- `choose` of the board below on what the part R leaves, and R put in again
pub chosen_over : (R f : Choice) (n : ℕ) (before part rest mid after : List ℕ) → length before ≡ n → member part ≡ R (member before)
    → member rest ≡ minus (member before) (member part) → mid ≡ marked n (f (member rest)) → length after ≡ length mid
    → ((k : ℕ) → k < length mid → get_or after k 0 ≡ cond (member part k) 1 (get_or mid k 0)) → Chosen (over R f) n before after (Ok tt)
chosen_over R f n before part rest mid after e p m k l h = (e, put (R (member before)) (f (minus (member before) (R (member before)))) n mid after kept (l ∙ long) at)
  where
    kept : mid ≡ marked n (f (minus (member before) (R (member before))))
    kept = k ∙ ap (λ (Y : Set). marked n (f Y)) (m ∙ ap (λ (Y : Set). minus (member before) Y) p)

    long : length mid ≡ n
    long = ap length k ∙ length_marked n (f (member rest))

    at : (j : ℕ) → j < n → get_or after j 0 ≡ cond (R (member before) j) 1 (get_or mid j 0)
    at j i = h j (rw long i) ∙ ap (λ (Y : Set). cond (Y j) 1 (get_or mid j 0)) p
