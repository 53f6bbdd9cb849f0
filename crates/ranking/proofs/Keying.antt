-- The keys of contracts, sorted, are the contracts in a row.
use Rattle.std.proofs.Common.{◌≡◌, ℕ, ◌<◌, ◌≤◌, true, false, List, [], ◌∷◌, map, length, get_or, sym, refl, ap, ◌∙◌, subst, arith}
use Rattle.std.proofs.lemmas.Bool.Decides.{nat_tests}
use Rattle.std.proofs.lemmas.List.{length-map}
use Rattle.std.proofs.lemmas.List.Elements.{All-get_or, All-map, All-from_get_or}
use Rattle.std.proofs.lemmas.List.MinMax.{ranks_by}
use Rattle.std.proofs.lemmas.List.Sorted.{All-permutation, IsPermutation-map, sorted_far}
use Rattle.std.proofs.Math.ListN.{get_or-map}
use Rattle.std.specs.Ordering.{is_lt}
use Rattle.std.specs.List.{All}
use Rattle.std.specs.List.Sorted.{IsPermutation, IsSorted}
use Rattle.rules.specs.declared.table.Contract.{Contract}
use Rattle.rules.specs.declared.table.Rule.{Rule}
use Rattle.rules.specs.declared.table.Rule.TheVariants.{Rank, Lot, Term}
use Rattle.matching.specs.Sets.{Set, rising}
use Rattle.ranking.specs.declared.key.Key.{Key}
use Rattle.ranking.specs.Keys.{compared, key_at, keys_below, numbers, Sorted, Placed}
use Rattle.ranking.specs.Rows.{precedes, Ordered, InRow}
use Rattle.ranking.specs.Total.{compared_total}
use Rattle.ranking.proofs.Risings.{shuffled_apart}

-- what a sort of keys ensures
pub rises_from_sort : (ks : List Key) → IsSorted compared ks
    → (i j : ℕ) (d : Key) → i < j → j < length ks → is_lt (compared (get_or ks j d) (get_or ks i d)) ≡ false
rises_from_sort ks up i j d l h = sorted_far (λ x y. is_lt (compared x y)) (ranks_by compared_total (λ x. x)) ks up i j d (omega arith) h

-- of two contracts, the one whose key is not above the other's comes first
not_above : (rule : Rule) (cs : List Contract) (i j : ℕ) → (i ≡ j → ⊥)
    → is_lt (compared (key_at rule cs j) (key_at rule cs i)) ≡ false → precedes rule cs i j ≡ true
not_above Rank cs i j ne h = grind (arith, nat_tests)
not_above Lot cs i j ne h = grind (arith, nat_tests)
not_above Term cs i j ne h = grind (arith, nat_tests)

numbers_back : (rule : Rule) (cs : List Contract) (ns : List ℕ) → numbers (map (key_at rule cs) ns) ≡ ns
numbers_back rule cs [] = refl
numbers_back rule cs (n ∷ ns) = ap (λ l. n ∷ l) (numbers_back rule cs ns)

-- the keys of contracts, sorted, give the contracts in a row
lined : (rule : Rule) (cs : List Contract) (X : Set) (ks ks' : List Key)
    → ks ≡ keys_below rule cs (length cs) X → Sorted ks ks' → Ordered rule cs X (numbers ks')
lined rule cs X ks ks' e s = record { same = same; sorted = sorted }
  where
    same : IsPermutation (rising (length cs) X) (numbers ks')
    same = subst (λ ns. IsPermutation ns (numbers ks')) (ap numbers e ∙ numbers_back rule cs (rising (length cs) X)) (IsPermutation-map (λ k. k.number) ks ks' s.same)

    Own : Key → Type 0
    Own k = key_at rule cs k.number ≡ k

    own : All Own ks'
    own = All-permutation Own ks ks' s.same (subst (All Own) (sym e)
        (All-map Own (key_at rule cs) (rising (length cs) X) (All-from_get_or (λ n. Own (key_at rule cs n)) (rising (length cs) X) 0 (λ i l. refl))))

    at : (i : ℕ) → i < length ks' → get_or ks' i (key_at rule cs 0) ≡ key_at rule cs (get_or (numbers ks') i 0)
    at i l = sym (ap (key_at rule cs) (get_or-map (λ k. k.number) ks' i (key_at rule cs 0)) ∙ All-get_or Own ks' i (key_at rule cs 0) l own)

    sorted : (i j : ℕ) → i < j → j < length (numbers ks') → precedes rule cs (get_or (numbers ks') i 0) (get_or (numbers ks') j 0) ≡ true
    sorted i j l m =
        let h : j < length ks' = omega (arith, length-map ks' (λ k. k.number)) in
        not_above rule cs _ _ (shuffled_apart (length cs) X (numbers ks') same i j l m)
        (sym (λ t. is_lt (compared (at j h t) (at i (omega arith) t))) ∙ s.rises i j (key_at rule cs 0) l h)

-- the numbers of the sorted keys of all n contracts, of at most so many as a deck has, are a row
pub placed_row : (rule : Rule) (cs : List Contract) (n : ℕ) (X : Set) (ks : List Key) (row : List ℕ) → length row ≤ 2048
    → n ≡ length cs → ks ≡ keys_below rule cs n X → Placed ks row → InRow rule cs X row
placed_row rule cs n X ks row few all e p = record {
  few = few;
  ordered = subst (Ordered rule cs X) (sym p.are) (lined rule cs X ks p.keys (e ∙ ap (λ m. keys_below rule cs m X) all) p.sorted);
}
