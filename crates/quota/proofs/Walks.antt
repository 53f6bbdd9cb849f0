-- The walk along a row: dredger after dredger, and within each by rank.
use Rattle.std.proofs.Common.{◌≡◌, ℕ, ◌+◌, ◌<◌, ◌≤◌, Bool, true, false, cond, ◌&&◌, eqb, ltb, List, length, get_or, take, set, replicate, None, count_by, Option, sym, refl, ap, ◌∙◌, subst, ⊎_elim, arith}
use mathlib.Core.Path.{fun_ext}
use Rattle.std.specs.List.{All}
use Rattle.std.proofs.lemmas.List.{get_or-set_same, get_or-set_other, get_or-take, get_or_default, length-take-le, get_or-replicate}
use Rattle.std.proofs.lemmas.List.Sums.{sum_by-le, sum_by_more}
use Rattle.std.proofs.lemmas.Bool.{and_right, eq-eqb, eqb-true, eqb-false, ne_eqb, cases_Bool, cases_eq, cases_lt, cond-true, cond-false, le-ltb}
use Rattle.rules.specs.declared.table.Rule.TheVariants.{Rank}
use Rattle.rules.specs.declared.table.Contract.{Contract}
use Rattle.rules.specs.Contents.{contract_at}
use Rattle.deck.specs.declared.deck.Deck.{Deck}
use Rattle.deck.specs.Contents.{data_of}
use Rattle.board.specs.declared.marked.Marked.{Marked}
use Rattle.board.specs.Marked.{contracts_of, deck_of, list_of, marks_of}
use Rattle.board.specs.Marks.{member}
use Rattle.matching.specs.Sets.{Set}
use Rattle.matching.proofs.Sets.{and_true}
use Rattle.ranking.specs.Rows.{Ordered, InRow}
use Rattle.ranking.proofs.Lineups.{lined_all, lined_dredgers, lined-ahead}
use Rattle.quota.specs.declared.row.Row.{Row}
use Rattle.quota.specs.declared.sums.Sums.{Sums}
use Rattle.quota.specs.Caps.{parent_of, cap_of, is_parent, kids, filled, directly, F, has_place, stop, stopped_at, Earlier}
use Rattle.quota.specs.Climb.{no_sums, sum_of, below_cap, turned, Filled, one_more, Climbed}
use Rattle.quota.specs.Walk.{Told}
use Rattle.quota.specs.Sums.{across_none, kids_same}
use Rattle.quota.specs.Tree.{down}
use Rattle.quota.specs.Laws.{no_cap, filled_is}

-- the sums are fixed by the counts
filled_once : (rows : List Row) → Earlier rows → (S o : ℕ → ℕ) → Filled rows S o → (v : ℕ) → v < 64 → S v ≡ filled rows o 64 v
filled_once rows ea S o f = down (λ v. S v ≡ filled rows o 64 v) step
  where
    step : (v : ℕ) → v < 64 → ((c : ℕ) → v < c → c < 64 → S c ≡ filled rows o 64 c) → S v ≡ filled rows o 64 v
    step v l ih =
        let a = f v l in
        let b = filled_is rows (λ v p l. ea v p) o v l in
        let c : kids (parent_of rows) S v ≡ kids (parent_of rows) (λ j. filled rows o 64 j) v = kids_same (parent_of rows) (λ v p l. ea v p) S (λ j. filled rows o 64 j) v (λ j p. ih j) in
        omega arith

filled_by : (rows : List Row) (S o p : ℕ → ℕ) → ((v : ℕ) → v < 64 → o v ≡ p v) → Filled rows S o → Filled rows S p
filled_by rows S o p h f v l = let a = f v l in let b = h v l in omega arith

-- without contracts all sums are 0
filled_none : (rows : List Row) (S o : ℕ → ℕ) → ((v : ℕ) → v < 64 → S v ≡ 0) → ((v : ℕ) → v < 64 → o v ≡ 0) → Filled rows S o
filled_none rows S o s h v l =
    let a : kids (parent_of rows) S v ≡ 0 = across_none (λ c. cond (is_parent (parent_of rows c) v) (S c) 0) (λ c i. nothing (is_parent (parent_of rows c) v) (S c) (s c i)) in
    let b = s v l in
    let c = h v l in
    omega arith
  where
    nothing : (b : Bool) (x : ℕ) → x ≡ 0 → cond b x 0 ≡ 0
    nothing true x e = e
    nothing false x e = refl

zeros_at : (v : ℕ) → v < 64 → ◌≡◌ {A = ℕ} (get_or (replicate 64 0) v 0) 0
zeros_at v l = get_or-replicate 64 v 0 0 l

-- contract j is of dredger g and directly in group v
abbrev pub is_of : List Contract → ℕ → ℕ → ℕ → Bool
is_of cs g v j = eqb (contract_at cs j).group v && eqb (contract_at cs j).dredger g

-- how many such contracts are among the first i of the row
abbrev pub met : List Contract → List ℕ → ℕ → ℕ → ℕ → ℕ
met cs ns i g v = count_by (is_of cs g v) (take i ns)

-- after i contracts of a row
pub record Walking (rows : List Row) (cs : List Contract) (X : Set) (ns : List ℕ) (s : Sums) (stops : List (Option ℕ)) (i : ℕ) : Type 0 where
  pub counted : Filled rows (sum_of s) (met cs ns i s.dredger)
  pub past : (j : ℕ) → j < i → (contract_at cs (get_or ns j 0)).dredger ≤ s.dredger
  pub ahead : (j : ℕ) → i ≤ j → j < length ns → s.dredger ≤ (contract_at cs (get_or ns j 0)).dredger
  pub told : (j : ℕ) → j < i → get_or stops (get_or ns j 0) None ≡ stopped_at rows cs X (get_or ns j 0)

pub walking_none : (rows : List Row) (cs : List Contract) (X : Set) (ns : List ℕ) (s : Sums) (stops : List (Option ℕ)) → s ≡ no_sums → Walking rows cs X ns s stops 0
walking_none rows cs X ns s stops e =
    let P : Sums → Type 0 = λ q. Walking rows cs X ns q stops 0 in
    subst P (sym e) (record {
      counted = filled_none rows (sum_of no_sums) (met cs ns 0 0) zeros_at (λ v l. refl);
      past = λ j l. absurd (omega arith);
      ahead = λ j a b. omega arith;
      told = λ j l. absurd (omega arith);
    })

module _ {rows : List Row} {cs : List Contract} {X : Set} {ns : List ℕ} {s : Sums} {stops : List (Option ℕ)} {i : ℕ}
    (ea : Earlier rows) (len : length rows ≡ 64) (o : Ordered Rank cs X ns) (l : i < length ns) (w : Walking rows cs X ns s stops i) where
  abbrev d : ℕ
  d = (contract_at cs (get_or ns i 0)).dredger

  -- of a new dredger none was met
  none_met : (s.dredger ≡ d → ⊥) → (v : ℕ) → met cs ns i d v ≡ 0
  none_met ne v = omega (arith, sum_by-le (λ j. cond (is_of cs d v j) 1 0) 0 (take i ns) other)
    where
      other : All (λ j. cond (is_of cs d v j) 1 0 ≤ 0) (take i ns)
      other a z m =
          let b : a < i = omega (arith, m, length-take-le i ns (omega arith)) in
          let p : (contract_at cs (get_or ns a 0)).dredger ≤ s.dredger = w.past a b in
          let q : s.dredger ≤ d = w.ahead i (omega arith) l in
          let e : get_or (take i ns) a z ≡ get_or ns a 0 = get_or-take i ns a z b ∙ get_or_default ns a z 0 (omega arith) in
          let f : is_of cs d v (get_or (take i ns) a z) ≡ false = and_right _ _ (ap (λ j. eqb (contract_at cs j).dredger d) e ∙ ne_eqb _ _ (λ h. ne (omega arith))) in
          omega (arith, cond-false {A = ℕ} _ 1 0 f)

  base : Filled rows (sum_of (turned s d)) (met cs ns i d)
  base =
      let P : List ℕ → Type 0 = λ xs. Filled rows (λ v. get_or xs v 0) (met cs ns i d) in
      let Q : ℕ → Type 0 = λ h. Filled rows (sum_of s) (met cs ns i h) in
      ⊎_elim
      (λ e. subst P (sym (cond-true _ _ _ e)) (subst Q (eqb-true _ _ e) w.counted))
      (λ e. subst P (sym (cond-false _ _ _ e)) (filled_none rows (λ v. get_or (replicate 64 0) v 0) (met cs ns i d) zeros_at (λ v _. none_met (eqb-false _ _ e) v)))
      (cases_Bool (eqb s.dredger d))

  sums_are : (v : ℕ) → v < 64 → sum_of (turned s d) v ≡ F rows cs v X (get_or ns i 0)
  sums_are = filled_once rows ea (sum_of (turned s d)) (directly cs X (get_or ns i 0))
      (filled_by rows (sum_of (turned s d)) (met cs ns i d) (directly cs X (get_or ns i 0))
      (λ v _. sym (lined-ahead o i (λ j. eqb (contract_at cs j).group v) l)) base)

  tests_are : below_cap rows (turned s d) ≡ has_place rows cs X (get_or ns i 0)
  tests_are = fun_ext at
    where
      at : (v : ℕ) → below_cap rows (turned s d) v ≡ has_place rows cs X (get_or ns i 0) v
      at v = ⊎_elim (λ m. ap (λ x. ltb x (cap_of rows v)) (sums_are v m))
          (λ m. let c = no_cap rows len v m in le-ltb _ _ (omega arith) ∙ sym (le-ltb _ _ (omega arith))) (cases_lt v 64)

  module _ {next : Sums} (r : Option ℕ) (c : Climbed rows (turned s d) (contract_at cs (get_or ns i 0)).group next r) where
    answered : r ≡ stopped_at rows cs X (get_or ns i 0)
    answered = c.answer ∙ ap (λ ok. stop (parent_of rows) ok (contract_at cs (get_or ns i 0)).group) tests_are

    one : (v : ℕ) → v < 64 → one_more (met cs ns i d) (contract_at cs (get_or ns i 0)).group v ≡ met cs ns (i + 1) d v
    one v _ =
        ap (λ b. met cs ns i d v + cond b 1 0) (sym (ap (λ b. eqb (contract_at cs (get_or ns i 0)).group v && b) (eq-eqb d d refl) ∙ and_true _))
        ∙ sym (sum_by_more (λ j. cond (is_of cs d v j) 1 0) ns i 0 l)

    -- the stop of the contract at i is written
    walking-more : get_or ns i 0 < length stops → Walking rows cs X ns next (set stops (get_or ns i 0) r) (i + 1)
    walking-more fits = record {
      counted =
          let P : ℕ → Type 0 = λ h. Filled rows (sum_of next) (met cs ns (i + 1) h) in
          subst P (sym c.dredger)
          (filled_by rows (sum_of next) (one_more (met cs ns i d) (contract_at cs (get_or ns i 0)).group) (met cs ns (i + 1) d) one (c.counted (met cs ns i d) base));
      past = λ j a. omega (arith, c.dredger, lined_dredgers o j i (omega arith) l);
      ahead = λ j a b. omega (arith, c.dredger, lined_dredgers o i j (omega arith) b);
      told = λ j a. ⊎_elim
          (λ e. ap (λ n. get_or (set stops (get_or ns i 0) r) n None) e ∙ get_or-set_same stops (get_or ns i 0) r None fits ∙ answered ∙ ap (λ n. stopped_at rows cs X n) (sym e))
          (λ ne. get_or-set_other stops (get_or ns i 0) (get_or ns j 0) r None ne ∙ w.told j (before j a ne)) (cases_eq (get_or ns j 0) (get_or ns i 0));
    }
      where
        before : (j : ℕ) → j < i + 1 → (get_or ns j 0 ≡ get_or ns i 0 → ⊥) → j < i
        before j a ne = ⊎_elim (λ h. h) (λ h. absurd (ne (ap (λ n. get_or ns n 0) (omega arith)))) (cases_lt j i)

  -- the same of the contract k that stands at i
  pub walking_next : {k : ℕ} {r : Option ℕ} {next : Sums} → k ≡ get_or ns i 0 → k < length stops
      → Climbed rows (turned s (contract_at cs k).dredger) (contract_at cs k).group next r → Walking rows cs X ns next (set stops k r) (i + 1)
  walking_next {k} {r} {next} e =
      let P : ℕ → Type 0 = λ j. j < length stops → Climbed rows (turned s (contract_at cs j).dredger) (contract_at cs j).group next r → Walking rows cs X ns next (set stops j r) (i + 1) in
      subst P (sym e) (λ fits c. walking-more r c fits)

pub walking_all : {rows : List Row} {cs : List Contract} {X : Set} {ns : List ℕ} {s : Sums} {stops : List (Option ℕ)} {i : ℕ} → Ordered Rank cs X ns
    → length ns ≤ i → Walking rows cs X ns s stops i → Told rows cs X stops
walking_all {rows} {cs} {X} {ns} {s} {stops} o h w n m x =
    let f = lined_all o n m x in
    ap (λ j. get_or stops j None) (sym f.2) ∙ w.told f.0 (omega (arith, f.1)) ∙ ap (λ j. stopped_at rows cs X j) f.2

-- what is lent of a row of a copied list stands in the order of the list
pub listed_order : {d : Deck} {marks ns row : List ℕ} (m : Marked) → (deck_of m ≡ d) × (marks_of m ≡ marks) → ns ≡ row → InRow Rank (contracts_of m) (list_of m) row
    → Ordered Rank (data_of d).contracts (member marks) ns
listed_order {d} {marks} {ns} m c e r =
    subst (λ xs. Ordered Rank (data_of d).contracts (member xs) ns) c.1
    (subst (λ x. Ordered Rank (data_of x).contracts (list_of m) ns) c.0 (subst (Ordered Rank (contracts_of m) (list_of m)) (sym e) r.ordered))
