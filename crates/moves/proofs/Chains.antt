-- One more at the end of a chain of moves, and how many wait after it.
use Rattle.std.proofs.Common.{◌≡◌, ℕ, ◌+◌, List, [], ◌∷◌, ◌++◌, length, refl, ap, subst, arith}
use Rattle.std.proofs.lemmas.List.Sorted.{length_permutation}
use Rattle.moves.specs.Moves.{Move, Joins, Takes, AllJoin}

pub length-joins : (manner : Move) (xs : List ℕ) (t : ℕ) (ys : List ℕ) → Joins manner xs t ys → length ys ≡ length xs + 1
length-joins manner xs t ys j = let l = length_permutation (t ∷ xs) ys j.bag in omega arith

pub length-takes : (manner : Move) (xs : List ℕ) (t : ℕ) (ys : List ℕ) → Takes manner xs t ys → length xs ≡ length ys + 1
length-takes manner xs t ys j = let l = length_permutation xs (t ∷ ys) j.bag in omega arith

pub join_more : (manner : Move) (xs ts ys zs : List ℕ) (t : ℕ) → AllJoin manner xs ts ys → Joins manner ys t zs → AllJoin manner xs (ts ++ t ∷ []) zs
join_more manner xs [] ys zs t h j = (zs, subst (λ (l : List ℕ). Joins manner l t zs) h j, refl)
join_more manner xs (u ∷ ts) ys zs t h j = (h.0, h.1, join_more manner h.0 ts ys zs t h.2 j)

pub length_join : (manner : Move) (xs ts ys : List ℕ) → AllJoin manner xs ts ys → length ys ≡ length xs + length ts
length_join manner xs [] ys h = let e = ap length h in omega arith
length_join manner xs (t ∷ ts) ys h =
    let i = length_join manner h.0 ts ys h.2 in
    let l = length-joins manner xs t h.0 h.1 in
    omega arith
