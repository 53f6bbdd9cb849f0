-- What a quota board keeps of a list: caps on a tree of 64 groups.
use Rattle.std.specs.Prelude.{◌≡◌, ℕ, zero, suc, ◌+◌, ◌<◌, min, Bool, false, cond, ◌&&◌, List, length, Some, None, Option, is_none, option_and_then, ◌==◌, nat_lt, slice_index_or}
use Rattle.rules.specs.declared.table.Contract.{Contract}
use Rattle.rules.specs.declared.table.Group.{Group}
use Rattle.rules.specs.Contents.{contract_at, group_at}
use Rattle.moves.specs.Bags.{total, passing}
use Rattle.matching.specs.Sets.{Set}
use Rattle.ranking.specs.Rank.{above}
use Rattle.quota.specs.declared.row.Row.{Row}

-- the row of a group
abbrev pub row_of : Group → Row
row_of g = record { parent = g.parent; cap = g.capacity }

-- the row that no group was given for
abbrev pub no_row : Row
no_row = record { parent = None; cap = 0 }

abbrev pub row_at : List Row → ℕ → Row
row_at rows v = slice_index_or rows v no_row

abbrev pub parent_of : List Row → ℕ → Option ℕ
parent_of rows v = (row_at rows v).parent

abbrev pub cap_of : List Row → ℕ → ℕ
cap_of rows v = (row_at rows v).cap

-- a parent is an earlier group
abbrev pub Earlier : List Row → Type 0
Earlier rows = (v p : ℕ) → parent_of rows v ≡ Some p → p < v

-- the row for group v of a deck: no parent and cap 0 where the deck has no such group
abbrev pub given_row : List Group → ℕ → Row
given_row gs v = cond (nat_lt v (length gs)) (row_of (group_at gs v)) no_row

-- the sum over the 64 groups
unfoldable pub across : (ℕ → ℕ) → ℕ
across f = total 64 f

-- is v this parent?
abbrev pub is_parent : Option ℕ → ℕ → Bool
is_parent None v = false
is_parent (Some p) v = p == v

-- the sum over the groups whose parent is v
abbrev pub kids : (ℕ → Option ℕ) → (ℕ → ℕ) → ℕ → ℕ
kids par f v = across (λ c. cond (is_parent (par c) v) (f c) 0)

-- The smaller of the cap of v and this sum: the same over the groups whose parent is v, plus own v.
-- t bounds the depth: a parent is an earlier group, so 64 groups are at most 64 deep.
unfoldable pub filled : List Row → (ℕ → ℕ) → ℕ → ℕ → ℕ
filled rows own zero v = 0
filled rows own (suc t) v = min (cap_of rows v) (kids (parent_of rows) (λ c. filled rows own t c) v + own v)

-- how many contracts of X directly in v rank above k
abbrev pub directly : List Contract → Set → ℕ → ℕ → ℕ
directly cs X k v = passing (length cs) (λ j. X j && ((contract_at cs j).group == v && above cs j k))

abbrev pub F : List Row → List Contract → ℕ → Set → ℕ → ℕ
F rows cs v X k = filled rows (directly cs X k) 64 v

-- has group v a place for k?
abbrev pub has_place : List Row → List Contract → Set → ℕ → ℕ → Bool
has_place rows cs X k v = nat_lt (F rows cs v X k) (cap_of rows v)

-- the first group from v upwards that fails, if one does; t bounds the depth
unfoldable pub first_full : (ℕ → Option ℕ) → (ℕ → Bool) → ℕ → ℕ → Option ℕ
first_full par ok zero v = None
first_full par ok (suc t) v = cond (ok v) (option_and_then (λ p. first_full par ok t p) (par v)) (Some v)

abbrev pub stop : (ℕ → Option ℕ) → (ℕ → Bool) → ℕ → Option ℕ
stop par ok v = first_full par ok 64 v

-- do v and all groups above it pass?
abbrev pub upwards : (ℕ → Option ℕ) → (ℕ → Bool) → ℕ → Bool
upwards par ok v = is_none (stop par ok v)

-- what is kept of X
abbrev pub quota : List Row → List Contract → Set → Set
quota rows cs X k = X k && upwards (parent_of rows) (has_place rows cs X k) (contract_at cs k).group

-- the group at which k is stopped, where it is not kept
abbrev pub stopped_at : List Row → List Contract → Set → ℕ → Option ℕ
stopped_at rows cs X k = stop (parent_of rows) (has_place rows cs X k) (contract_at cs k).group

-- the pair for a contract of the list, by where it is stopped
abbrev pub pair_of : Option ℕ → ℕ × ℕ
pair_of None = (0, 0)
pair_of (Some v) = (2, v)

abbrev pub quota_reason : List Row → List Contract → Set → ℕ → ℕ × ℕ
quota_reason rows cs X k = pair_of (stopped_at rows cs X k)
