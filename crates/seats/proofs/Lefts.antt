-- A row, and the best contract in it that is left.
use Rattle.std.proofs.Common.{◌≡◌, ℕ, ◌<◌, true, List, length, Some, None, Option, sym, ap, ◌∙◌, subst, ⊎_elim, arith}
use Rattle.std.specs.Option.{MatchOption, IsSomeAnd}
use Rattle.std.proofs.lemmas.Bool.{cases_eq, cases_lt, both_ways, eq-eqb}
use Rattle.rules.specs.declared.table.Contract.{Contract}
use Rattle.rules.specs.declared.table.Rule.{Rule}
use Rattle.rules.specs.declared.table.Seat.{Seat}
use Rattle.rules.specs.Contents.{contract_at, rule_by}
use Rattle.deck.specs.Contents.{data_of}
use Rattle.board.specs.declared.marked.Marked.{Marked}
use Rattle.board.specs.Marked.{contracts_of, deck_of, list_of}
use Rattle.matching.specs.Sets.{Set, Part, Within}
use Rattle.ranking.proofs.Lineups.{precedes_by_rule}
use Rattle.seats.specs.declared.lineup.Lineup.{Lineup}
use Rattle.seats.specs.Taking.{before, takes}
use Rattle.seats.specs.Best.{Best}
use Rattle.seats.specs.Rows.{nth, Holds, IsFirst, Points}
use Rattle.seats.specs.Ready.{Ready, Is}
use Rattle.seats.proofs.Bests.{best_only, none_taken}
use Rattle.seats.proofs.Rows.{points_less}

holds_less : (rule : Rule) (cs : List Contract) (R S : Set) (row : List ℕ) → Part S R → Holds rule cs R row → Holds rule cs S row
holds_less rule cs R S row p h = record { few = h.few; known = h.known; sorted = h.sorted; all = λ k e. h.all k (p k e) }

-- what is left gets less
pub ready_less : (rule : Rule) (rest more : Marked) (l : Lineup) → deck_of rest ≡ deck_of more → Part (list_of rest) (list_of more) → Ready rule more l → Ready rule rest l
ready_less rule rest more l e p h = record {
  holds = subst (λ d. Holds rule (data_of d).contracts (list_of rest) l.numbers.items) (sym e)
      (holds_less rule (contracts_of more) (list_of more) (list_of rest) l.numbers.items p h.holds);
  points = subst (λ d. Points (data_of d).contracts (list_of rest) l.numbers.items (length l.numbers.items) l.next) (sym e)
      (points_less (contracts_of more) (list_of more) (list_of rest) l.numbers.items (length l.numbers.items) l.next p h.points);
}

module _ (s : Seat) (cs : List Contract) (R : Set) (row : List ℕ) (holds : Holds (rule_by s) cs R row) where
  -- the contract at the first place is the best one left
  first_best : (p : ℕ) → Within (length cs) R → IsFirst cs R row s.dredger (Some p) → Is (length cs) (takes s cs R) (Some (nth row p))
  first_best p w first = (holds.known p first.0, best_only s cs R w (nth row p) best)
    where
      after : (i : ℕ) → i < length row → (contract_at cs (nth row i)).dredger ≡ s.dredger → R (nth row i) ≡ true → (nth row i ≡ nth row p → ⊥)
          → before cs (rule_by s) (nth row p) (nth row i) ≡ true
      after i b e r ne = ⊎_elim
          (λ q. absurd (both_ways _ (first.2 i q e) r))
          (λ q. ⊎_elim (λ z. absurd (ne (ap (nth row) (sym z))))
          (λ z. let y : p < i = omega arith in precedes_by_rule (rule_by s) cs (nth row p) (nth row i) (holds.sorted p i y b) (eq-eqb _ _ (first.1 ∙ sym e))) (cases_eq p i))
          (cases_lt i p)

      others : (j : ℕ) → R j ≡ true → (contract_at cs j).dredger ≡ s.dredger → (j ≡ nth row p → ⊥) → before cs (rule_by s) (nth row p) j ≡ true
      others j r e ne =
          let a = holds.all j r in
          let P : ℕ → Type 0 = λ k. (contract_at cs k).dredger ≡ s.dredger → R k ≡ true → (k ≡ nth row p → ⊥) → before cs (rule_by s) (nth row p) k ≡ true in
          subst P a.2 (after a.0 a.1) e r ne

      best : Best s cs R (nth row p)
      best = record { listed = first.3; there = first.1; others = others }

  -- nothing is left at the dredger
  first_none : IsFirst cs R row s.dredger None → Is (length cs) (takes s cs R) None
  first_none h = none_taken s cs R nothing
    where
      nothing : (k : ℕ) → R k ≡ true → (contract_at cs k).dredger ≡ s.dredger → ⊥
      nothing k r e =
          let a = holds.all k r in
          let P : ℕ → Type 0 = λ j. (contract_at cs j).dredger ≡ s.dredger → R j ≡ true → ⊥ in
          subst P a.2 (λ d t. both_ways _ (h a.0 a.1 d) t) e r

  -- what is read at the first place, if there is one
  pub first_given : (first out : Option ℕ) (Q : ℕ → ℕ → Type 0) → Within (length cs) R → IsFirst cs R row s.dredger first
      → MatchOption first (out ≡ None) (λ p. IsSomeAnd out (Q p)) → ((p k : ℕ) → Q p k → k ≡ nth row p) → Is (length cs) (takes s cs R) out
  first_given None out Q w h e q = subst (Is (length cs) (takes s cs R)) (sym e) (first_none h)
  first_given (Some p) None Q w h e q = absurd e
  first_given (Some p) (Some k) Q w h e q = subst (λ j. Is (length cs) (takes s cs R) (Some j)) (sym (q p k e)) (first_best p w h)
