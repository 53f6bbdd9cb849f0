-- What a row is sorted by: a key for each contract, and one order on keys that serves every rule.
use Rattle.std.specs.Prelude.{◌≡◌, ℕ, ◌<◌, false, List, map, length, slice_index_or}
use Rattle.std.specs.declared.cmp.Ordering.{Ordering}
use Rattle.std.specs.Ordering.{is_lt, ordering_then, nat_cmp}
use Rattle.std.specs.List.Sorted.{IsPermutation}
use Rattle.rules.specs.declared.table.Contract.{Contract}
use Rattle.rules.specs.declared.table.Rule.{Rule}
use Rattle.rules.specs.declared.table.Rule.TheVariants.{Rank, Lot, Term}
use Rattle.rules.specs.Contents.{contract_at}
use Rattle.matching.specs.Sets.{Set, rising}
use Rattle.ranking.specs.declared.key.Key.{Key}

-- the lower dredger, then the lower term, then more points, then the lower lot, then the lower number
abbrev pub compared : Key → Key → Ordering
compared a b =
    ordering_then (nat_cmp a.dredger b.dredger)
    (ordering_then (nat_cmp a.term b.term)
    (ordering_then (nat_cmp b.points.0 a.points.0)
    (ordering_then (nat_cmp a.lot b.lot) (nat_cmp a.number b.number))))

-- the term, where a rule reads it, else zero
abbrev pub term_by : Rule → Contract → ℕ
term_by Rank a = 0
term_by Lot a = 0
term_by Term a = a.term

-- the points, where a rule reads them, else zero
abbrev pub points_by : Rule → Contract → ℕ
points_by Rank a = a.points
points_by Lot a = 0
points_by Term a = a.points

-- the key of contract a, number k
abbrev pub key_of : Rule → Contract → ℕ → Key
key_of rule a k = record { dredger = a.dredger; term = term_by rule a; points = record { 0 = points_by rule a }; lot = a.lot; number = k }

abbrev pub key_at : Rule → List Contract → ℕ → Key
key_at rule cs k = key_of rule (contract_at cs k) k

-- the keys of the contracts of X below n
abbrev pub keys_below : Rule → List Contract → ℕ → Set → List Key
keys_below rule cs n X = map (key_at rule cs) (rising n X)

abbrev pub numbers : List Key → List ℕ
numbers ks = map (λ k. k.number) ks

-- the same keys, and none before a lower one
pub record Sorted (ks ks' : List Key) : Type 0 where
  pub same : IsPermutation ks ks'
  pub rises : (i j : ℕ) (d : Key) → i < j → j < length ks' → is_lt (compared (slice_index_or ks' j d) (slice_index_or ks' i d)) ≡ false

-- the row has the numbers of the keys, sorted
pub record Placed (ks : List Key) (row : List ℕ) : Type 0 where
  pub keys : List Key
  pub sorted : Sorted ks keys
  pub are : row ≡ numbers keys
