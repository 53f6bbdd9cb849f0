-- Membership in what the operations on lists make.
use Rattle.std.proofs.Common.{◌≡◌, ℕ, Bool, true, false, not, ◌&&◌, ◌||◌, sym, refl, ap, ◌∙◌}
use Rattle.std.proofs.lemmas.Bool.{both_ways, false_from_ne_true, ne_eqb, and_parts, and_from, not-true, not_from_false}
use Rattle.std.proofs.Math.Bool.{and-true, or-false}
use Rattle.matching.specs.Sets.{Set, minus, less, Part, Within}

pub outside : (X : Set) (k : ℕ) → (X k ≡ true → ⊥) → X k ≡ false
outside X k h = false_from_ne_true (X k) h

pub minus_in : (X B : Set) (k : ℕ) → X k ≡ true → B k ≡ false → minus X B k ≡ true
minus_in X B k x b = and_from (X k) _ x (not_from_false (B k) b)

pub minus_of : (X B : Set) (k : ℕ) → minus X B k ≡ true → X k ≡ true
minus_of X B k h = (and_parts (X k) _ h).0

pub minus_out : (X B : Set) (k : ℕ) → minus X B k ≡ true → B k ≡ false
minus_out X B k h = not-true (B k) (and_parts (X k) _ h).1

pub within_part : (n : ℕ) (X Y : Set) → Within n Y → Part X Y → Within n X
within_part n X Y w p k x = w k (p k x)

-- what lies within a list has nothing outside it
pub out_of_part : (X Y : Set) → Part X Y → (k : ℕ) → Y k ≡ false → X k ≡ false
out_of_part X Y p k h = outside X k (λ x. both_ways (Y k) h (p k x))

pub same_bool : (a b : Bool) → (a ≡ true → b ≡ true) → (b ≡ true → a ≡ true) → a ≡ b
same_bool true b f g = sym (f refl)
same_bool false true f g = g refl
same_bool false false f g = refl

pub and_true : (a : Bool) → (a && true) ≡ a
and_true a = and-true a

pub or_false : (a : Bool) → (a || false) ≡ a
or_false a = or-false a

-- all but the removed one stay
pub less_other : (X : Set) (z j : ℕ) → (j ≡ z → ⊥) → less X z j ≡ X j
less_other X z j ne = ap (λ t. X j && not t) (ne_eqb j z ne) ∙ and_true (X j)

pub less_of : (X : Set) (z : ℕ) → Part (less X z) X
less_of X z j h = (and_parts (X j) _ h).0
