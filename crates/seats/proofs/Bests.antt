-- What the first contract at a dredger is.
use Rattle.std.proofs.Common.{◌≡◌, ℕ, ◌<◌, ◌≤◌, true, false, ◌&&◌, eqb, ltb, List, length, sym, ap, ◌∙◌, subst, ⊎_elim, arith}
use Rattle.std.proofs.lemmas.Bool.{and_parts, and_from, cases_Bool, cases_eq, both_ways, eq-eqb, ne_eqb, eqb-true, lt-ltb, ltb-true}
use Rattle.rules.specs.declared.table.Contract.{Contract}
use Rattle.rules.specs.declared.table.Seat.{Seat}
use Rattle.rules.specs.Contents.{contract_at, rule_by}
use Rattle.matching.specs.Sets.{Set, Within}
use Rattle.matching.specs.Choices.{ahead}
use Rattle.matching.proofs.Sums.{passing_none, passing_some}
use Rattle.matching.proofs.Sets.{outside}
use Rattle.seats.specs.Taking.{at, before, takes}
use Rattle.seats.specs.Best.{Best, Follows}
use Rattle.ranking.proofs.Orderings.{rules_order}
use Rattle.seats.specs.SeatLaws.{rule_strict}

module _ (s : Seat) (cs : List Contract) (X : Set) where
  -- k is in X and at the seat's dredger, so it is counted before j where it comes before it
  counted : (k j : ℕ) → k < length cs → X k ≡ true → (contract_at cs k).dredger ≡ s.dredger → before cs (rule_by s) k j ≡ true
      → 1 ≤ ahead (length cs) (at cs s.dredger) (before cs (rule_by s)) X j
  counted k j l x d b =
      passing_some (length cs) (λ i. X i && (at cs s.dredger i && before cs (rule_by s) i j)) k l
      (and_from _ _ x (and_from _ _ (eq-eqb _ _ d) b))

  pub taken_best : Within (length cs) X → (k : ℕ) → takes s cs X k ≡ true → Best s cs X k
  taken_best w k e = record { listed = a.0; there = eqb-true _ _ b.0; others = others }
    where
      a : (X k ≡ true) × ((at cs s.dredger k && ltb (ahead (length cs) (at cs s.dredger) (before cs (rule_by s)) X k) 1) ≡ true)
      a = and_parts _ _ e

      b : (at cs s.dredger k ≡ true) × (ltb (ahead (length cs) (at cs s.dredger) (before cs (rule_by s)) X k) 1 ≡ true)
      b = and_parts _ _ a.1

      others : (j : ℕ) → X j ≡ true → (contract_at cs j).dredger ≡ s.dredger → (j ≡ k → ⊥) → before cs (rule_by s) k j ≡ true
      others j x d ne = ⊎_elim (λ t. t)
          (λ f. let c : 1 ≤ ahead (length cs) (at cs s.dredger) (before cs (rule_by s)) X k =
          counted j k (w j x) x d ((rules_order (rule_by s)).total (contract_at cs k) (contract_at cs j) k j (λ q. ne (sym q)) f) in
          let z : ahead (length cs) (at cs s.dredger) (before cs (rule_by s)) X k < 1 = ltb-true _ _ b.1 in
          absurd (omega arith)) (cases_Bool (before cs (rule_by s) k j))

  pub best_taken : (k : ℕ) → Best s cs X k → takes s cs X k ≡ true
  best_taken k h = and_from _ _ h.listed (and_from _ _ (eq-eqb _ _ h.there) (lt-ltb _ _ (let z = none_ahead in omega arith)))
    where
      alone : (j : ℕ) → X j ≡ true → at cs s.dredger j ≡ true → before cs (rule_by s) j k ≡ true → ⊥
      alone j x d b = ⊎_elim
          (λ q. both_ways _ ((rule_strict cs (rule_by s)).irreflexive k) (let P : ℕ → Type 0 = λ i. before cs (rule_by s) i k ≡ true in subst P q b))
          (λ ne. both_ways _ ((rule_strict cs (rule_by s)).irreflexive k) ((rule_strict cs (rule_by s)).transitive k j k (h.others j x (eqb-true _ _ d) ne) b))
          (cases_eq j k)

      none_ahead : ahead (length cs) (at cs s.dredger) (before cs (rule_by s)) X k ≡ 0
      none_ahead = passing_none (length cs) (λ j. X j && (at cs s.dredger j && before cs (rule_by s) j k))
          (λ j l. outside (λ i. X i && (at cs s.dredger i && before cs (rule_by s) i k)) j
          (λ e. let a = and_parts (X j) _ e in let b = and_parts (at cs s.dredger j) _ a.1 in alone j a.0 b.0 b.1))

  -- of the others none is taken
  others_left : Within (length cs) X → (k : ℕ) → Best s cs X k → (j : ℕ) → (j ≡ k → ⊥) → takes s cs X j ≡ false
  others_left w k h j ne = outside (takes s cs X) j
      (λ e. let b = taken_best w j e in
      both_ways _ ((rule_strict cs (rule_by s)).irreflexive k)
      ((rule_strict cs (rule_by s)).transitive k j k (h.others j b.listed b.there ne) (b.others k h.listed h.there (λ q. ne (sym q)))))

  pub best_only : Within (length cs) X → (k : ℕ) → Best s cs X k → (j : ℕ) → takes s cs X j ≡ eqb j k
  best_only w k h j = ⊎_elim
      (λ q. ap (takes s cs X) q ∙ best_taken k h ∙ sym (eq-eqb j k q))
      (λ ne. others_left w k h j ne ∙ sym (ne_eqb j k ne)) (cases_eq j k)

  -- nothing is there to take
  pub none_taken : ((k : ℕ) → X k ≡ true → (contract_at cs k).dredger ≡ s.dredger → ⊥) → (j : ℕ) → takes s cs X j ≡ false
  none_taken h j = outside (takes s cs X) j (λ e. let a = and_parts (X j) _ e in h j a.0 (eqb-true _ _ (and_parts (at cs s.dredger j) _ a.1).0))

pub follows : (s : Seat) → Follows s
follows s = record { best = taken_best s; taken = λ cs X w. best_taken s cs X }
