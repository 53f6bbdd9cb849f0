-- The sums with no bound of depth, and the laws of the quota board.
use Rattle.std.specs.Prelude.{◌≡◌, ℕ, zero, suc, ◌+◌, ◌<◌, ◌≤◌, min, Bool, true, false, ◌&&◌, List, length, Some, None, Option, is_none, refl}
use Rattle.std.proofs.Common.{sym, ◌∙◌, ap, ⊎_elim, arith}
use Rattle.std.proofs.lemmas.Bool.{both_ways, cases_lt}
use Rattle.std.proofs.lemmas.List.{get_or_past}
use Rattle.std.proofs.lemmas.Option.{none-some}
use Rattle.rules.specs.declared.table.Contract.{Contract}
use Rattle.rules.specs.Contents.{contract_at}
use Rattle.matching.specs.Sets.{Set}
use Rattle.matching.specs.Choices.{Lawful}
use Rattle.ranking.specs.Rank.{above}
use Rattle.ranking.proofs.Orderings.{above_irrefl, above_trans}
use Rattle.quota.specs.declared.row.Row.{Row}
use Rattle.quota.specs.Caps.{no_row, row_at, parent_of, cap_of, kids, filled, directly, F, stopped_at, pair_of, quota, quota_reason, Earlier}
use Rattle.quota.specs.Sums.{kids_same}
use Rattle.quota.specs.Capped.{Caps, Fills, chosen-lawful}

module _ (rows : List Row) (ea : (v p : ℕ) → v < 64 → parent_of rows v ≡ Some p → p < v) where
  filled_suc : (o : ℕ → ℕ) (t v : ℕ) → filled rows o (suc t) v ≡ min (cap_of rows v) (kids (parent_of rows) (λ c. filled rows o t c) v + o v)
  unfolding filled
  filled_suc o t v = refl

  -- one turn more changes nothing once all groups below v have had theirs
  stable : (o : ℕ → ℕ) (t v : ℕ) → v < 64 → 64 ≤ v + t → filled rows o (suc t) v ≡ filled rows o t v
  stable o zero v l h = absurd (omega arith)
  stable o (suc t) v l h =
      filled_suc o (suc t) v
      ∙ ap (λ s. min (cap_of rows v) (s + o v))
      (kids_same (parent_of rows) ea (λ c. filled rows o (suc t) c) (λ c. filled rows o t c) v (λ c p a b. stable o t c b (omega arith)))
      ∙ sym (filled_suc o t v)

  pub filled_is : (o : ℕ → ℕ) (v : ℕ) → v < 64 → filled rows o 64 v ≡ min (cap_of rows v) (kids (parent_of rows) (λ c. filled rows o 64 c) v + o v)
  filled_is o v l = sym (stable o 64 v l (omega arith)) ∙ filled_suc o 64 v

past_rows : (rows : List Row) → length rows ≡ 64 → (v : ℕ) → 64 ≤ v → row_at rows v ≡ no_row
past_rows rows len v l = get_or_past rows v _ (omega arith)

-- past the 64 rows there is no place
pub no_cap : (rows : List Row) → length rows ≡ 64 → (v : ℕ) → 64 ≤ v → cap_of rows v ≡ 0
no_cap rows len v l = ap (λ r. r.cap) (past_rows rows len v l)

-- nor a parent: it is enough that those of the 64 groups are earlier
pub earlier_rows : (rows : List Row) → length rows ≡ 64 → ((v p : ℕ) → v < 64 → parent_of rows v ≡ Some p → p < v) → Earlier rows
earlier_rows rows len ea v p e = ⊎_elim (λ l. ea v p l e) (λ l. absurd (none-some p (sym (ap (λ r. r.parent) (past_rows rows len v l)) ∙ e))) (cases_lt v 64)

caps : (rows : List Row) → Earlier rows → length rows ≡ 64 → List Contract → Caps
caps rows ea len cs = record {
  n = length cs;
  par = parent_of rows;
  cap = cap_of rows;
  grp = λ k. (contract_at cs k).group;
  ord = above cs;
  earlier = λ v p l. ea v p;
  none = no_cap rows len;
  irrefl = above_irrefl cs;
  trans = above_trans cs;
}

fills : (rows : List Row) (ea : Earlier rows) (len : length rows ≡ 64) (cs : List Contract) → Fills (caps rows ea len cs) (λ v X k. F rows cs v X k)
unfolding caps
fills rows ea len cs v X k l = filled_is rows (λ v p l. ea v p) (directly cs X k) v l

pub quota-lawful : (rows : List Row) → Earlier rows → length rows ≡ 64 → (cs : List Contract) → Lawful (length cs) (quota rows cs)
unfolding caps
quota-lawful rows ea len cs = chosen-lawful (caps rows ea len cs) (λ v X k. F rows cs v X k) (fills rows ea len cs)

coded : (b : Bool) (s : Option ℕ) → b ≡ true → (b && is_none s) ≡ false → 1 < (pair_of s).0
coded b None x e = absurd (both_ways _ e (ap (λ c. c && true) x))
coded b (Some v) x e = omega arith

-- the code of a reason is above 1
pub reason-coded : (rows : List Row) (cs : List Contract) (X : Set) (k : ℕ) → X k ≡ true → quota rows cs X k ≡ false → 1 < (quota_reason rows cs X k).0
reason-coded rows cs X k x e = coded (X k) (stopped_at rows cs X k) x e
