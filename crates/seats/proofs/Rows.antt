-- Where the contracts of each dredger may begin in a row.
use Rattle.std.proofs.Common.{◌≡◌, ℕ, ◌+◌, ◌-◌, ◌<◌, ◌≤◌, true, false, List, length, get_or, take, drop, set, replicate, Some, None, Option, sym, refl, ap, ◌∙◌, subst, ⊎_elim, arith, length-set, get_or-set_other, get_or-set_same}
use lib.ListN.{length-replicate}
use Rattle.std.specs.Option.{option_or}
use Rattle.std.proofs.lemmas.List.{get_or-replicate, get_or-take, get_or-drop, length-take, length-drop}
use Rattle.std.proofs.lemmas.Bool.{cases_eq, cases_lt, both_ways}
use Rattle.rules.specs.declared.table.Contract.{Contract}
use Rattle.rules.specs.declared.table.Rule.{Rule}
use Rattle.matching.specs.Sets.{Set, Part}
use Rattle.matching.proofs.Sets.{outside}
use Rattle.ranking.proofs.Lineups.{precedes_dredgers}
use Rattle.seats.specs.Rows.{nth, dredger_at, Holds, Rises, Passed, Opens, Points, IsFirst}

pub holds_rises : (rule : Rule) (cs : List Contract) (R : Set) (row : List ℕ) → Holds rule cs R row → Rises cs row
holds_rises rule cs R row h = record { few = h.few; known = h.known; rising = λ i j a b. precedes_dredgers rule cs (nth row i) (nth row j) (h.sorted i j a b) }

module _ (cs : List Contract) (R : Set) (row : List ℕ) where
  pub points_none : (next : List (Option ℕ)) → next ≡ replicate 256 None → Points cs R row 0 next
  points_none next e = record {
    wide = ap length e ∙ length-replicate {A = Option ℕ} 256 None;
    opens = λ g l. subst (Opens cs R row 0 g) (sym (ap (λ xs. get_or xs g None) e ∙ get_or-replicate 256 g None None l)) (λ i q. absurd (omega arith));
  }

  opens_there : (m d : ℕ) (o : Option ℕ) → dredger_at cs row m ≡ d → Opens cs R row m d o → Opens cs R row (m + 1) d (option_or o (Some m))
  opens_there m d None e h = (omega arith, e, h)
  opens_there m d (Some p) e h = let a : p < m = h.0 in (omega arith, h.1, h.2)

  opens_other : (m d g : ℕ) (o : Option ℕ) → dredger_at cs row m ≡ d → (g ≡ d → ⊥) → Opens cs R row m g o → Opens cs R row (m + 1) g o
  opens_other m d g None e ne h = λ i l q. ⊎_elim
      (λ z. absurd (ne (sym q ∙ ap (dredger_at cs row) z ∙ e)))
      (λ z. h i (omega arith) q) (cases_eq i m)
  opens_other m d g (Some p) e ne h = let a : p < m = h.0 in (omega arith, h.1, h.2)

  -- one place more, of dredger d
  pub points_more : (m d : ℕ) (next : List (Option ℕ)) (o : Option ℕ) → d < 256 → dredger_at cs row m ≡ d → o ≡ option_or (get_or next d None) (Some m)
      → Points cs R row m next → Points cs R row (m + 1) (set next d o)
  points_more m d next o small e given h = record { wide = length-set next d o ∙ h.wide; opens = opens }
    where
      new : Opens cs R row (m + 1) d o
      new = subst (Opens cs R row (m + 1) d) (sym given) (opens_there m d (get_or next d None) e (h.opens d small))

      opens : (g : ℕ) → g < 256 → Opens cs R row (m + 1) g (get_or (set next d o) g None)
      opens g l = ⊎_elim
          (λ (q : g ≡ d). subst (λ f. Opens cs R row (m + 1) f (get_or (set next d o) f None)) (sym q)
          (subst (Opens cs R row (m + 1) d) (sym (get_or-set_same next d o None (let w : length next ≡ 256 = h.wide in omega arith))) new))
          (λ (ne : g ≡ d → ⊥). subst (Opens cs R row (m + 1) g) (sym (get_or-set_other next d g o None ne))
          (opens_other m d g (get_or next g None) e ne (h.opens g l)))
          (cases_eq g d)

  -- the search is over at a place of another dredger
  pub passed_all : (from p g : ℕ) → Rises cs row → dredger_at cs row from ≡ g → from ≤ p → p < length row → Passed cs R row p g
      → (dredger_at cs row p ≡ g → ⊥) → Passed cs R row (length row) g
  passed_all from p g rises at after inside h ne i l q = ⊎_elim (λ z. h i z q) (λ z. absurd (beyond z)) (cases_lt i p)
    where
      beyond : p ≤ i → ⊥
      beyond m = ⊎_elim
          (λ (z : p ≡ i). ne (ap (dredger_at cs row) z ∙ q))
          (λ z. let a : dredger_at cs row p ≤ dredger_at cs row i = rises.rising p i (omega arith) l in
          ⊎_elim (λ (y : from ≡ p). ne (sym (ap (dredger_at cs row) y) ∙ at))
          (λ y. let b : dredger_at cs row from ≤ dredger_at cs row p = rises.rising from p (omega arith) inside in ne (omega arith)) (cases_eq from p))
          (cases_eq p i)

  -- one place more, whose contract is not left
  pub passed_more : (p q g : ℕ) → q ≡ p + 1 → Passed cs R row p g → R (nth row p) ≡ false → Passed cs R row q g
  passed_more p n g e h r i l q = ⊎_elim (λ (z : i ≡ p). ap (λ j. R (nth row j)) z ∙ r) (λ z. h i (omega arith) q) (cases_eq i p)

  first_opens : (g : ℕ) (o : Option ℕ) → IsFirst cs R row g o → Opens cs R row (length row) g o
  first_opens g None h = h
  first_opens g (Some p) h = (h.0, h.1, h.2)

  -- the search goes on at what was found
  pub points_moved : (g : ℕ) (o : Option ℕ) (next : List (Option ℕ)) (place : ℕ) → g < 256 → place ≡ g → Points cs R row (length row) next → IsFirst cs R row g o
      → Points cs R row (length row) (set next place o)
  points_moved g o next place small e h first = record { wide = length-set next place o ∙ h.wide; opens = opens }
    where
      opens : (f : ℕ) → f < 256 → Opens cs R row (length row) f (get_or (set next place o) f None)
      opens f l = ⊎_elim
          (λ (q : f ≡ place). subst (λ x. Opens cs R row (length row) x (get_or (set next place o) x None)) (sym q)
          (subst (λ x. Opens cs R row (length row) place x) (sym (get_or-set_same next place o None (let w : length next ≡ 256 = h.wide in omega arith)))
          (subst (λ x. Opens cs R row (length row) x o) (sym e) (first_opens g o first))))
          (λ (ne : f ≡ place → ⊥). subst (Opens cs R row (length row) f) (sym (get_or-set_other next place f o None ne)) (h.opens f l))
          (cases_eq f place)

-- what is left gets less
opens_less : (cs : List Contract) (R S : Set) (row : List ℕ) (m g : ℕ) (o : Option ℕ) → Part S R → Opens cs R row m g o → Opens cs S row m g o
opens_less cs R S row m g None p h = λ i l q. outside S (nth row i) (λ e. both_ways _ (h i l q) (p (nth row i) e))
opens_less cs R S row m g (Some k) p h = (h.0, h.1, λ i l q. outside S (nth row i) (λ e. both_ways _ (h.2 i l q) (p (nth row i) e)))

pub points_less : (cs : List Contract) (R S : Set) (row : List ℕ) (m : ℕ) (next : List (Option ℕ)) → Part S R → Points cs R row m next → Points cs S row m next
points_less cs R S row m next p h = record { wide = h.wide; opens = λ g l. opens_less cs R S row m g (get_or next g None) p (h.opens g l) }

-- the rest of a row, which was cut at a place
pub tail_at : (row ys : List ℕ) (from m i : ℕ) → ys ≡ row → m ≡ from → from < length row → i < length (take (length ys - m) (drop m ys))
    → (from + i < length row) × (get_or (take (length ys - m) (drop m ys)) i 0 ≡ nth row (from + i))
tail_at row ys from m i e f l h = (inside, read)
  where
    same : length ys ≡ length row
    same = ap length e

    short : i < length ys - m
    short = omega (arith, h, length-take {A = ℕ}, length-drop {A = ℕ})

    inside : from + i < length row
    inside = omega (arith, short, same, f)

    read : get_or (take (length ys - m) (drop m ys)) i 0 ≡ nth row (from + i)
    read = get_or-take (length ys - m) (drop m ys) i 0 short ∙ get_or-drop m ys i 0 ∙ ap (λ n. get_or ys (n + i) 0) f ∙ ap (λ xs. get_or xs (from + i) 0) e

-- no contract of R at the dredger is left before place from + i
pub record Searched (cs : List Contract) (R : Set) (row : List ℕ) (g from i : ℕ) : Type 0 where
  pub passed : Passed cs R row (from + i) g

pub searched_more : (cs : List Contract) (R : Set) (row : List ℕ) (g from i : ℕ) → R (nth row (from + i)) ≡ false → Searched cs R row g from i → Searched cs R row g from (i + 1)
searched_more cs R row g from i r h = record { passed = passed_more cs R row (from + i) (from + (i + 1)) g (omega arith) h.passed r }

-- with what a place further on reads
pub ruleset searching = (searched_more, get_or-take, get_or-drop, length-take, length-drop)

-- the same of a row that was read
pub rises_from : (rule : Rule) (cs ds : List Contract) (R : Set) (row ys : List ℕ) → ds ≡ cs → ys ≡ row → Holds rule cs R row → Rises ds ys
rises_from rule cs ds R row ys d e h = subst (λ xs. Rises xs ys) (sym d) (subst (Rises cs) (sym e) (holds_rises rule cs R row h))

-- the starts of a row serve every list
pub points_from : (cs ds : List Contract) (R : Set) (row ys : List ℕ) (next : List (Option ℕ)) → ds ≡ cs → ys ≡ row
    → Points ds (λ k. true) ys (length ys) next → Points cs R row (length row) next
points_from cs ds R row ys next d e h =
    points_less cs (λ k. true) R row (length row) next (λ k r. refl)
    (subst (λ xs. Points xs (λ k. true) row (length row) next) d (subst (λ xs. Points ds (λ k. true) xs (length xs) next) e h))
