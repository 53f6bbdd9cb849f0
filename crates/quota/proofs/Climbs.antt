-- The climb: one contract more, carried upwards until a group without parent was passed or a full group is met.
use Rattle.std.proofs.Common.{◌≡◌, ℕ, ◌+◌, ◌-◌, ◌<◌, ◌≤◌, min, Bool, true, false, cond, ltb, List, length, Some, None, Option, sym, refl, ap, ◌∙◌, subst, ⊎_elim, arith}
use Rattle.std.proofs.lemmas.List.{length-set, get_or-set_same, get_or-set_other}
use Rattle.std.proofs.lemmas.Bool.{eq-eqb, cases_eq, cond-true, cond-false, lt-ltb, le-ltb, ltb-true, ltb-false}
use Rattle.std.proofs.lemmas.Option.{none-some, same_Some}
use Rattle.quota.specs.declared.row.Row.{Row}
use Rattle.quota.specs.declared.sums.Sums.{Sums}
use Rattle.quota.specs.Caps.{row_at, parent_of, cap_of, is_parent, kids, stop, Earlier}
use Rattle.quota.specs.Climb.{sum_of, below_cap, with_one, Filled, one_more, Climbed}
use Rattle.quota.specs.Sums.{across_bump, kids_same}
use Rattle.quota.specs.Tree.{stop_full, stop_top, stop_up}

-- all sums are right but that of v, which lacks one
pub record Pending (rows : List Row) (S o : ℕ → ℕ) (v : ℕ) : Type 0 where
  pub others : (w : ℕ) → w < 64 → (w ≡ v → ⊥) → S w ≡ min (cap_of rows w) (kids (parent_of rows) S w + o w)
  pub some : 1 ≤ kids (parent_of rows) S v + o v
  pub lacks : S v ≡ min (cap_of rows v) ((kids (parent_of rows) S v + o v) - 1)

pending_full : (rows : List Row) (S o : ℕ → ℕ) (v : ℕ) → v < 64 → Pending rows S o v → cap_of rows v ≤ S v → Filled rows S o
pending_full rows S o v l p full w i = ⊎_elim
    (λ e. let P : ℕ → Type 0 = λ j. S j ≡ min (cap_of rows j) (kids (parent_of rows) S j + o j) in subst P (sym e) (let a = p.some in let b = p.lacks in omega arith))
    (λ ne. p.others w i ne) (cases_eq w v)

-- the sum of v becomes one more
module _ (rows : List Row) (ea : Earlier rows) (S T o : ℕ → ℕ) (v : ℕ) (l : v < 64) (at : T v ≡ S v + 1) (off : (w : ℕ) → (w ≡ v → ⊥) → T w ≡ S w) where
  kids_parent : (w : ℕ) → parent_of rows v ≡ Some w → kids (parent_of rows) T w ≡ kids (parent_of rows) S w + 1
  kids_parent w e =
      let b : is_parent (parent_of rows v) w ≡ true = ap (λ q. is_parent q w) e ∙ eq-eqb w w refl in
      across_bump (λ c. cond (is_parent (parent_of rows c) w) (S c) 0) (λ c. cond (is_parent (parent_of rows c) w) (T c) 0) v 1 l
      (cond-true _ _ _ b ∙ at ∙ ap (λ x. x + 1) (sym (cond-true _ _ _ b)))
      (λ c i ne. ap (λ x. cond (is_parent (parent_of rows c) w) x 0) (off c ne))

  kids_other : (w : ℕ) → (parent_of rows v ≡ Some w → ⊥) → kids (parent_of rows) T w ≡ kids (parent_of rows) S w
  kids_other w e = kids_same (parent_of rows) (λ v p l. ea v p) T S w (λ c p i j. off c (λ q. e (ap (λ k. parent_of rows k) (sym q) ∙ p)))

  module _ (p : Pending rows S o v) (room : S v < cap_of rows v) where
    right : (w : ℕ) → w < 64 → (parent_of rows v ≡ Some w → ⊥) → T w ≡ min (cap_of rows w) (kids (parent_of rows) T w + o w)
    right w i e = ⊎_elim here (λ ne. let a = off w ne in let b = kids_other w e in let c = p.others w i ne in omega arith) (cases_eq w v)
      where
        here : w ≡ v → T w ≡ min (cap_of rows w) (kids (parent_of rows) T w + o w)
        here q =
            let P : ℕ → Type 0 = λ j. T j ≡ min (cap_of rows j) (kids (parent_of rows) T j + o j) in
            subst P (sym q) (let b = kids_other v (λ h. let a : v < v = ea v v h in omega arith) in let c = p.some in let d = p.lacks in omega arith)

    pending-top : parent_of rows v ≡ None → Filled rows T o
    pending-top h w i = right w i (λ e. none-some w (sym h ∙ e))

    pending-up : (u : ℕ) → parent_of rows v ≡ Some u → u < 64 → Pending rows T o u
    pending-up u h k =
        let q : u < v = ea v u h in
        let a : T u ≡ S u = off u (λ e. omega arith) in
        let b : kids (parent_of rows) T u ≡ kids (parent_of rows) S u + 1 = kids_parent u h in
        let c = p.others u k (λ e. omega arith) in
        record {
          others = λ w i ne. right w i (λ e. ne (same_Some w u (sym e ∙ h)));
          some = omega arith;
          lacks = omega arith;
        }

-- the climb from g stands at v
pub record Climbing (rows : List Row) (from s : Sums) (g v : ℕ) : Type 0 where
  pub within : v < 64
  pub long : length s.counts ≡ 64
  pub dredger : s.dredger ≡ from.dredger
  pub answer : stop (parent_of rows) (below_cap rows from) g ≡ stop (parent_of rows) (below_cap rows from) v
  pub still : (w : ℕ) → w ≤ v → sum_of s w ≡ sum_of from w
  pub counted : (own : ℕ → ℕ) → Filled rows (sum_of from) own → Pending rows (sum_of s) (one_more own g) v

-- the turn at v
module _ {rows : List Row} {from s : Sums} {g v : ℕ} (ea : Earlier rows) (c : Climbing rows from s g v) where
  tested : sum_of s v ≡ sum_of from v
  tested = c.still v (omega arith)

  climbing_full : cap_of rows v ≤ sum_of s v → Climbed rows from g s (Some v)
  climbing_full h = record {
    answer = sym (c.answer ∙ stop_full (parent_of rows) (below_cap rows from) v (le-ltb _ _ (let e = tested in omega arith)));
    dredger = c.dredger;
    counted = λ own f. pending_full rows (sum_of s) (one_more own g) v c.within (c.counted own f) h;
  }

  module _ (h : sum_of s v < cap_of rows v) where
    open-now : below_cap rows from v ≡ true
    open-now = lt-ltb _ _ (let e = tested in omega arith)

    at : sum_of (with_one s v) v ≡ sum_of s v + 1
    at = get_or-set_same s.counts v (sum_of s v + 1) 0 (let a = c.within in let b = c.long in omega arith)

    off : (w : ℕ) → (w ≡ v → ⊥) → sum_of (with_one s v) w ≡ sum_of s w
    off w ne = get_or-set_other s.counts v w (sum_of s v + 1) 0 ne

    climbing-top : parent_of rows v ≡ None → Climbed rows from g (with_one s v) None
    climbing-top p = record {
      answer = sym (c.answer ∙ stop_top (parent_of rows) (below_cap rows from) v open-now p);
      dredger = c.dredger;
      counted = λ own f. pending-top rows ea (sum_of s) (sum_of (with_one s v)) (one_more own g) v c.within at off (c.counted own f) h p;
    }

    climbing-up : (p : ℕ) → parent_of rows v ≡ Some p → Climbing rows from (with_one s v) g p
    climbing-up p e =
        let q : p < v = ea v p e in
        let k : p < 64 = omega (arith, c.within) in
        record {
          within = k;
          long = length-set s.counts v (sum_of s v + 1) ∙ c.long;
          dredger = c.dredger;
          answer = c.answer ∙ stop_up (parent_of rows) (below_cap rows from) (λ v p l. ea v p) v p c.within open-now e;
          still = λ w i. off w (λ e. omega arith) ∙ c.still w (omega arith);
          counted = λ own f. pending-up rows ea (sum_of s) (sum_of (with_one s v)) (one_more own g) v c.within at off (c.counted own f) h p e k;
        }

  -- by what `row` and `take_place` answer, and what is left
  module _ {row : Row} {took : Bool} {next : Sums} (r : row ≡ row_at rows v) (t : took ≡ ltb (sum_of s v) row.cap) (n : next ≡ cond took (with_one s v) s) where
    answered : took ≡ below_cap rows s v
    answered = t ∙ ap (λ q. ltb (sum_of s v) q.cap) r

    pub turn_full : took ≡ false → Climbed rows from g next (Some v)
    turn_full f =
        let P : Sums → Type 0 = λ l. Climbed rows from g l (Some v) in
        subst P (sym (n ∙ cond-false _ _ _ f)) (climbing_full (ltb-false _ _ (sym answered ∙ f)))

    pub turn_top : (q : Option ℕ) → q ≡ None → took ≡ true → parent_of rows v ≡ None → Climbed rows from g next q
    turn_top q z f e =
        let P : Sums → Type 0 = λ l. Climbed rows from g l None in
        let Q : Option ℕ → Type 0 = λ a. Climbed rows from g next a in
        subst Q (sym z) (subst P (sym (n ∙ cond-true _ _ _ f)) (climbing-top (ltb-true _ _ (sym answered ∙ f)) e))

    pub turn_up : (p : ℕ) → took ≡ true → parent_of rows v ≡ Some p → Climbing rows from next g p
    turn_up p f e =
        let P : Sums → Type 0 = λ l. Climbing rows from l g p in
        subst P (sym (n ∙ cond-true _ _ _ f)) (climbing-up (ltb-true _ _ (sym answered ∙ f)) p e)
