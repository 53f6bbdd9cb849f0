-- The definitions follow the rule.
use Rattle.std.proofs.Common.{◌≡◌, ℕ, ◌≤◌, false, List, length, ap, ⊎_elim, arith}
use Rattle.std.proofs.lemmas.Bool.{and_parts, and_from, and_cases, both_ways, ltb-true, ltb-false, lt-ltb, le-ltb}
use Rattle.rules.specs.declared.table.Contract.{Contract}
use Rattle.rules.specs.Contents.{contract_at}
use Rattle.matching.specs.Sets.{Set}
use Rattle.quota.specs.declared.row.Row.{Row}
use Rattle.quota.specs.Caps.{parent_of, directly, has_place, pair_of, Earlier}
use Rattle.quota.specs.Rule.{Rule}
use Rattle.quota.specs.Tree.{upwards_all, upwards_from, upwards_fails}
use Rattle.quota.specs.Laws.{no_cap, filled_is}

module _ (rows : List Row) (ea : Earlier rows) (len : length rows ≡ 64) (cs : List Contract) where
  closed : (X : Set) (k v : ℕ) → 64 ≤ v → has_place rows cs X k v ≡ false
  closed X k v l = le-ltb _ _ (omega (arith, no_cap rows len v l))

  pub ruled : Rule rows cs
  ruled = record {
    filled = λ X k v l. filled_is rows (λ v p l. ea v p) (directly cs X k) v l;
    kept = λ X k e.
        let p = and_parts _ _ e in
        (p.0, λ v u. ltb-true _ _ (upwards_all (parent_of rows) (has_place rows cs X k) (λ v p l. ea v p) (contract_at cs k).group (closed X k (contract_at cs k).group) p.1 v u));
    keeps = λ X k x h. and_from _ _ x (upwards_from (parent_of rows) (has_place rows cs X k) 64 (contract_at cs k).group (λ w u. lt-ltb _ _ (h w u)));
    stopped = λ X k x e.
        let f = upwards_fails (parent_of rows) (has_place rows cs X k) ea (contract_at cs k).group
        (⊎_elim (λ n. absurd (both_ways _ n x)) (λ n. n) (and_cases _ _ e)) in
        let d = f.2 in
        (f.0, ap pair_of f.1, record { up = d.up; full = ltb-false _ _ d.fails; first = λ w a b ne. ltb-true _ _ (d.before w a b ne) });
  }
