-- Where each contract of a list is stopped, and how one walk in rank order finds it.
use Rattle.std.specs.Prelude.{◌≡◌, ℕ, ◌<◌, true, List, length, None, Option, slice_index, slice_index_or}
use Rattle.rules.specs.declared.table.Rule.TheVariants.{Rank}
use Rattle.rules.specs.declared.table.Contract.{Contract}
use Rattle.matching.specs.Sets.{Set}
use Rattle.ranking.specs.Rows.{Ordered}
use Rattle.quota.specs.declared.row.Row.{Row}
use Rattle.quota.specs.Caps.{stopped_at}

-- these are the stops of all contracts of X
abbrev pub Told : List Row → List Contract → Set → List (Option ℕ) → Type 0
Told rows cs X stops = (k : ℕ) → k < length cs → X k ≡ true → slice_index_or stops k None ≡ stopped_at rows cs X k

-- each number in the row is that of a contract
abbrev pub Numbers : ℕ → List ℕ → Type 0
Numbers n ns = (i : ℕ) → i < length ns → slice_index ns i < n

-- `walk` along a row: whatever list the row has in order, these are its stops
abbrev pub Walked : List Row → List Contract → List ℕ → List (Option ℕ) → Type 0
Walked rows cs ns stops = (X : Set) → Ordered Rank cs X ns → Told rows cs X stops
