-- The ends of a row as the moves of a line.
use Rattle.std.proofs.Common.{◌≡◌, ℕ, ◌+◌, ◌<◌, ◌≤◌, List, [], ◌∷◌, ◌++◌, length, get_or, take, sym, subst, arith, take_all}
use Rattle.std.specs.List.Sorted.{IsPermutation}
use Rattle.std.proofs.lemmas.List.{take_more, length-take-le}
use Rattle.std.proofs.lemmas.List.Sorted.{IsPermutation-refl, IsPermutation-sym, IsPermutation-to_front}
use Rattle.moves.specs.Moves.{Move, Joins, Takes, AllJoin}
use Rattle.moves.proofs.Chains.{join_more, length_join}
use Rattle.line.specs.Calls.{at_end, the_oldest, the_newest}

pub joins_end : (xs : List ℕ) (t : ℕ) (ys : List ℕ) → ys ≡ xs ++ t ∷ [] → Joins at_end xs t ys
joins_end xs t ys e = record {
  bag = subst (λ (l : List ℕ). IsPermutation (t ∷ xs) l) (sym e) (IsPermutation-sym _ _ (IsPermutation-to_front xs t));
  order = e;
}

pub takes_oldest : (xs : List ℕ) (t : ℕ) (ys : List ℕ) → xs ≡ t ∷ ys → Takes the_oldest xs t ys
takes_oldest xs t ys e = record { bag = subst (λ (l : List ℕ). IsPermutation l (t ∷ ys)) (sym e) (IsPermutation-refl (t ∷ ys)); order = e }

pub takes_newest : (xs : List ℕ) (t : ℕ) (ys : List ℕ) → xs ≡ ys ++ t ∷ [] → Takes the_newest xs t ys
takes_newest xs t ys e = record { bag = subst (λ (l : List ℕ). IsPermutation l (t ∷ ys)) (sym e) (IsPermutation-to_front ys t); order = e }

-- the next of a list joins after those before it, or has no place
pub joined_more : (manner : Move) (xs ts ys zs : List ℕ) (i : ℕ) → i < length ts → AllJoin manner xs (take i ts) ys → Joins manner ys (get_or ts i 0) zs →
    AllJoin manner xs (take (i + 1) ts) zs
joined_more manner xs ts ys zs i lt h j =
    subst (λ (l : List ℕ). AllJoin manner xs l zs) (sym (take_more ts i 0 lt)) (join_more manner xs (take i ts) ys zs (get_or ts i 0) h j)

pub joined_room : (manner : Move) (xs ts ys : List ℕ) (i places : ℕ) → i < length ts → AllJoin manner xs (take i ts) ys → length ts + length xs ≤ places → length ys < places
joined_room manner xs ts ys i places lt h room =
    let a = length_join manner xs (take i ts) ys h in
    let le : i ≤ length ts = omega arith in
    let b = length-take-le i ts le in
    omega arith

pub joined_all : (manner : Move) (xs ts ys : List ℕ) (i : ℕ) → length ts ≤ i → AllJoin manner xs (take i ts) ys → AllJoin manner xs ts ys
joined_all manner xs ts ys i h j = subst (λ (l : List ℕ). AllJoin manner xs l ys) (take_all i ts h) j
