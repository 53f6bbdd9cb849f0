-- What marks mean, and what is written for a list.
use Rattle.std.proofs.Common.{◌≡◌, ℕ, ◌+◌, ◌<◌, ◌≤◌, Bool, true, false, cond, not, ◌&&◌, ◌||◌, eqb, List, length, get_or, set, subst, sym, refl, ap, ◌∙◌, ⊎_elim, arith}
use mathlib.Core.Path.{fun_ext}
use Rattle.std.proofs.lemmas.List.FromFn.{length-map-range_with_len, get_or-map-range_with_len, fill_by_all}
use Rattle.std.proofs.lemmas.List.{get_or_past, get_or-set_same, get_or-set_other}
use Rattle.std.proofs.lemmas.Bool.{cases_lt, ne_eqb}
use Rattle.matching.specs.Sets.{Set, common, minus, union, Within}
use Rattle.matching.proofs.Sets.{and_true, outside}
use Rattle.board.specs.Marks.{member, marked}

bit_back : (b : Bool) → not (eqb (cond b 1 0) 0) ≡ b
bit_back true = refl
bit_back false = refl

pub member_past : (xs : List ℕ) (k : ℕ) → length xs ≤ k → member xs k ≡ false
member_past xs k h = ap (λ x. not (eqb x 0)) (get_or_past xs k 0 h)

-- marks are a list of as many contracts as there are marks
pub member-within : (xs : List ℕ) (n : ℕ) → length xs ≡ n → Within n (member xs)
member-within xs n e k h = ⊎_elim (λ l. l) (λ l. absurd (false-true (sym (member_past xs k (rw e l)) ∙ h))) (cases_lt k n)
  where
    false-true : false ≡ true → ⊥
    false-true z = let y : ◌≡◌ {A = ℕ} 1 0 = ap (λ b. cond b 0 1) z in omega arith

pub length_marked : (n : ℕ) (X : Set) → length (marked n X) ≡ n
length_marked n X = length-map-range_with_len (λ k. cond (X k) 1 0) 0 n

pub get_or-marked : (n : ℕ) (Z : Set) (k : ℕ) → k < n → get_or (marked n Z) k 0 ≡ cond (Z k) 1 0
get_or-marked n Z k h = get_or-map-range_with_len (λ j. cond (Z j) 1 0) 0 n k k 0 h (omega arith)

pub member-marked : (n : ℕ) (Z : Set) → Within n Z → member (marked n Z) ≡ Z
member-marked n Z within = fun_ext at
  where
    at : (k : ℕ) → member (marked n Z) k ≡ Z k
    at k = ⊎_elim (λ h. ap (λ x. not (eqb x 0)) (get_or-marked n Z k h) ∙ bit_back (Z k))
        (λ h. member_past (marked n Z) k (rw length-map-range_with_len h) ∙ sym (outside Z k (λ z. let l = within k z in omega arith))) (cases_lt k n)

strike_bit : (b : Bool) (x : ℕ) → not (eqb (cond b 0 x) 0) ≡ (not (eqb x 0) && not b)
strike_bit true x = and_no (not (eqb x 0))
  where
    and_no : (a : Bool) → false ≡ (a && false)
    and_no true = refl
    and_no false = refl
strike_bit false x = sym (and_true (not (eqb x 0)))

-- marks in which the places of B were set to zero
pub struck : (B : Set) (n : ℕ) (xs ys : List ℕ) → length xs ≡ n → length ys ≡ n
    → ((j : ℕ) → j < n → get_or ys j 0 ≡ cond (B j) 0 (get_or xs j 0)) → member ys ≡ minus (member xs) B
struck B n xs ys lx ly h = fun_ext at
  where
    at : (k : ℕ) → member ys k ≡ minus (member xs) B k
    at k = ⊎_elim (λ l. ap (λ x. not (eqb x 0)) (h k l) ∙ strike_bit (B k) (get_or xs k 0))
        (λ l. member_past ys k (omega arith) ∙ sym (ap (λ a. a && not (B k)) (member_past xs k (omega arith)))) (cases_lt k n)

-- 0 and 1 at each place make the marks of a list
pub marked_from : (T : Set) (n : ℕ) (ys : List ℕ) → length ys ≡ n → ((j : ℕ) → j < n → get_or ys j 0 ≡ cond (T j) 1 0) → ys ≡ marked n T
marked_from T n ys l h = fill_by_all (λ j. cond (T j) 1 0) ys n 0 l h

bit_or : (a b : Bool) → ◌≡◌ {A = ℕ} (cond a 1 (cond b 1 0)) (cond (a || b) 1 0)
bit_or true b = refl
bit_or false b = refl

-- the marks of Z, with 1 put where R is
pub put : (R Z : Set) (n : ℕ) (mid ys : List ℕ) → mid ≡ marked n Z → length ys ≡ n
    → ((k : ℕ) → k < n → get_or ys k 0 ≡ cond (R k) 1 (get_or mid k 0)) → ys ≡ marked n (union R Z)
put R Z n mid ys m l h =
    marked_from (union R Z) n ys l
    (λ j i. h j i ∙ ap (λ x. cond (R j) 1 x) (ap (λ xs. get_or xs j 0) m ∙ get_or-marked n Z j i) ∙ bit_or (R j) (Z j))

-- one more place that was written by what a closure said of it
pub kept_more : {P : ℕ → Bool → Type 0} (X : Set) (xs : List ℕ) (k v : ℕ) → k < length xs
    → ((j : ℕ) → j < k → (b : Bool) × (X j ≡ true → P j b) × (get_or xs j 0 ≡ cond (X j && b) 1 0))
    → ((b : Bool) × (X k ≡ true → P k b) × (v ≡ cond (X k && b) 1 0))
    → (j : ℕ) → j < k + 1 → (b : Bool) × (X j ≡ true → P j b) × (get_or (set xs k v) j 0 ≡ cond (X j && b) 1 0)
kept_more {P = P} X xs k v l h w j m = ⊎_elim
    (λ i. let b = h j i in (b.0, b.1, get_or-set_other xs k j v 0 (λ e. omega arith) ∙ b.2))
    (λ e. let q : j ≡ k = omega arith in
    subst (λ i. (b : Bool) × (X i ≡ true → P i b) × (get_or (set xs k v) i 0 ≡ cond (X i && b) 1 0)) (sym q)
    (w.0, w.1, get_or-set_same xs k v 0 l ∙ w.2))
    (cases_lt j k)

-- what was kept by a closure that can answer only what a test says
pub kept_told : {P : ℕ → Bool → Type 0} (n : ℕ) (X p : Set) (ys : List ℕ) → length ys ≡ n → ((k : ℕ) (b : Bool) → k < n → P k b → b ≡ p k)
    → ((k : ℕ) → k < n → (b : Bool) × (X k ≡ true → P k b) × (get_or ys k 0 ≡ cond (X k && b) 1 0)) → ys ≡ marked n (common X p)
kept_told n X p ys l a h = marked_from (common X p) n ys l (λ j i. let w = h j i in w.2 ∙ ap (λ t. cond t 1 0) (same (X j) w.0 (p j) (λ x. a j w.0 i (w.1 x))))
  where
    same : (x b q : Bool) → (x ≡ true → b ≡ q) → (x && b) ≡ (x && q)
    same true b q e = e refl
    same false b q e = refl

-- a mark that was read, and whether its contract is in the list
pub read_in : (xs : List ℕ) (k m : ℕ) → m ≡ get_or xs k 0 → (m ≡ 0 → ⊥) → member xs k ≡ true
read_in xs k m e n = ap (λ x. not (eqb x 0)) (sym e) ∙ ap not (ne_eqb m 0 n)

pub read_out : (xs : List ℕ) (k m : ℕ) → m ≡ get_or xs k 0 → m ≡ 0 → member xs k ≡ false
read_out xs k m e z = ap (λ x. not (eqb x 0)) (sym e ∙ z)

-- the byte that was written of a test, where 1 and 0 are the bytes of true and false
pub byte_in : (byte : Bool → ℕ) → byte true ≡ 1 → byte false ≡ 0 → (m b f : Bool) (v : ℕ) → m ≡ true → f ≡ b → v ≡ byte f → v ≡ cond (m && b) 1 0
byte_in byte one none m b f v e i w = w ∙ ap byte i ∙ here b ∙ sym (ap (λ t. written_as t) e)
  where
    written_as : Bool → ℕ
    written_as t = cond (t && b) 1 0

    here : (b : Bool) → byte b ≡ cond b 1 0
    here true = one
    here false = none

pub byte_out : (byte : Bool → ℕ) → byte false ≡ 0 → (m f : Bool) (v : ℕ) → m ≡ false → f ≡ false → v ≡ byte f → v ≡ cond (m && false) 1 0
byte_out byte none m f v e i w = w ∙ ap byte i ∙ none ∙ sym (ap (λ t. cond (t && false) 1 0) e)
