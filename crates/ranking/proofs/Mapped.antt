-- A change of order under a map.
use Rattle.std.proofs.Common.{◌≡◌, ℕ, List, [], ◌∷◌, map, get_or, set, sym, refl, ap, ◌∙◌, subst}
use Rattle.std.proofs.Math.ListN.{get_or-map}
use Rattle.std.proofs.lemmas.List.{length-map, map-set}
use Rattle.std.specs.List.Sorted.{IsPermutation, apply_swaps, SwapsInRange}
use Rattle.std.specs.List.{swap}

module _ {X Y : Type 0} (f : X → Y) where
  map_exchanged : (xs : List X) (i j : ℕ) → map f (swap xs i j) ≡ swap (map f xs) i j
  map_exchanged [] i j = refl
  map_exchanged (d ∷ xs) i j =
      map-set f (set (d ∷ xs) i (get_or (d ∷ xs) j d)) j (get_or (d ∷ xs) i d)
      ∙ ap (λ z. set z j (f (get_or (d ∷ xs) i d))) (map-set f (d ∷ xs) i (get_or (d ∷ xs) j d))
      ∙ (λ t. set (set (map f (d ∷ xs)) i (sym (get_or-map f (d ∷ xs) j d) t)) j (sym (get_or-map f (d ∷ xs) i d) t))

  map_moved : (xs : List X) (ps : List (ℕ × ℕ)) → map f (apply_swaps xs ps) ≡ apply_swaps (map f xs) ps
  map_moved xs [] = refl
  map_moved xs (p ∷ ps) = map_exchanged (apply_swaps xs ps) p.0 p.1 ∙ ap (λ z. swap z p.0 p.1) (map_moved xs ps)

  -- what a mapped list is in another order is the map of a list in another order
  pub permutation_back : (xs : List X) (ys : List Y) → IsPermutation (map f xs) ys → (zs : List X) × (ys ≡ map f zs) × IsPermutation xs zs
  permutation_back xs ys h = (
    apply_swaps xs h.moves,
    h.is ∙ sym (map_moved xs h.moves),
    record { moves = h.moves; below = subst (λ n. SwapsInRange n h.moves) (length-map xs f) h.below; is = refl },
  )
