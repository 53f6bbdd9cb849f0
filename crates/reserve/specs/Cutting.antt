-- A row of contracts, cut where the reserved places end.
use Rattle.std.specs.Prelude.{◌≡◌, ℕ, zero, suc, ◌+◌, ◌<◌, ◌≤◌, Bool, true, false, cond, not, ◌&&◌, ◌||◌, ltb, List, [], ◌∷◌, ◌++◌, length, take, count_by, ◌==◌, ◌≢◌, nat_eq, nat_lt, slice_index, slice_index_or, refl}
use Rattle.std.proofs.Common.{sym, ◌∙◌, ap, subst, ⊎_elim, arith}
use Rattle.std.proofs.Math.Bool.{or_assoc}
use Rattle.std.proofs.Math.Path.{fun_ext}
use Rattle.std.proofs.lemmas.List.{get_or_past, length-take, take_more, take_all}
use Rattle.std.proofs.lemmas.List.Sums.{sum_by_more, count_by-le-length}
use Rattle.std.proofs.lemmas.Bool.{and_parts, and_from, and_left, and_right, or_left, or_right, or_cases, cases_eq, cases_lt, both_ways, eq-eqb, ne_eqb, eqb-true, lt-ltb, le-ltb, ltb-true}
use Rattle.rules.specs.declared.table.Contract.{Contract}
use Rattle.rules.specs.declared.table.Rule.TheVariants.{Rank}
use Rattle.rules.specs.Contents.{contract_at}
use Rattle.matching.specs.Sets.{Set, common, Within}
use Rattle.matching.specs.Choices.{Lawful, ahead, first}
use Rattle.matching.proofs.Sets.{same_bool, or_false, and_true}
use Rattle.matching.proofs.Sums.{passing_same}
use Rattle.matching.proofs.Firsts.{first-lawful}
use Rattle.board.specs.Marks.{member}
use Rattle.ranking.specs.Rank.{above, together}
use Rattle.ranking.specs.Rows.{Ordered}
use Rattle.ranking.proofs.Orderings.{above_irrefl, above_trans}
use Rattle.ranking.proofs.Lineups.{lined_in, lined_all, lined-ahead}
use Rattle.reserve.specs.Reserves.{flagged, reserve, reserved, entitled, entitled_of, has_room, left}

-- the reserve part is a lawful choice
pub reserved-lawful : (places : List ℕ) (cs : List Contract) → Lawful (length cs) (reserved places cs)
reserved-lawful places cs = first-lawful (length cs) (flagged cs) (above cs) (reserve places cs) (record {
  irreflexive = above_irrefl cs;
  transitive = above_trans cs;
  bound = λ i j e. ap (λ d. slice_index places d) (eqb-true _ _ (and_parts (together cs i j) _ e).0);
})

-- is k in the row?
abbrev pub among : List ℕ → ℕ → Bool
among [] k = false
among (x ∷ xs) k = k == x || among xs k

among_push : (xs : List ℕ) (x k : ℕ) → among (xs ++ x ∷ []) k ≡ (among xs k || k == x)
among_push [] x k = or_false (k == x)
among_push (y ∷ ys) x k = ap (λ b. (k == y) || b) (among_push ys x k) ∙ sym (or_assoc (k == y) (among ys k) (k == x))

among_more : (xs : List ℕ) (i k : ℕ) → i < length xs → among (take (i + 1) xs) k ≡ (among (take i xs) k || k == slice_index xs i)
among_more xs i k l = ap (λ ys. among ys k) (take_more xs i 0 l) ∙ among_push (take i xs) (slice_index xs i) k

among_at : (xs : List ℕ) (i k : ℕ) → i < length xs → slice_index xs i ≡ k → among xs k ≡ true
among_at [] i k l e = absurd (omega arith)
among_at (x ∷ xs) zero k l e = or_left _ _ (eq-eqb k x (sym e))
among_at (x ∷ xs) (suc i) k l e = or_right _ _ (among_at xs i k (omega arith) e)

among_place : (xs : List ℕ) (k : ℕ) → among xs k ≡ true → (i : ℕ) × (i < length xs) × (slice_index xs i ≡ k)
among_place [] k h = absurd (both_ways false refl h)
among_place (x ∷ xs) k h = ⊎_elim (λ e. (0, omega arith, sym (eqb-true k x e)))
    (λ e. let r = among_place xs k e in let l = r.1 in (suc r.0, omega arith, r.2)) (or_cases (k == x) (among xs k) h)

abbrev all : Set
all j = true

-- fewer contracts of the list rank above k than places are reserved
abbrev free : List ℕ → List Contract → Set → ℕ → Bool
free places cs E k = nat_lt (ahead (length cs) all (above cs) E k) (reserve places cs k)

-- after i contracts of the row: how many were seen at each dredger, and which are left
pub record Cut (places : List ℕ) (cs : List Contract) (E : Set) (ns seen : List ℕ) (T : Set) (i : ℕ) : Type 0 where
  pub seen_is : (v : ℕ) → slice_index seen v ≡ count_by (λ j. nat_eq (contract_at cs j).dredger v) (take i ns)
  pub left_is : (k : ℕ) → T k ≡ (E k && not (among (take i ns) k && not (free places cs E k)))

-- what the next contract adds to those seen
abbrev Sees : List Contract → List ℕ → List ℕ → ℕ → Type 0
Sees cs seen seen' k = (v : ℕ) → slice_index seen' v ≡ slice_index seen v + cond ((contract_at cs k).dredger == v) 1 0

left_here : (r a t e : Bool) → t ≡ (e && not (a && not r)) → cond r t (t && not true) ≡ (e && not (true && not r))
left_here true true t e h = h
left_here true false t e h = h
left_here false a true true h = refl
left_here false a true false h = refl
left_here false a false true h = refl
left_here false a false false h = refl

left_other : (r t q : Bool) → q ≡ false → cond r t (t && not q) ≡ t
left_other true t q h = refl
left_other false t q h = ap (λ b. t && not b) h ∙ and_true t

left_end : (e r t : Bool) → t ≡ (e && not (e && not r)) → t ≡ (e && (true && r))
left_end true true t h = h
left_end true false t h = h
left_end false r t h = h

byte_at : (a b out : Bool) (x y : ℕ) → (a ≡ true → x ≡ 0) → (b ≡ true → y ≡ 0) → not a ≡ (not b && not out) → (not a ≡ true → x ≡ y) → x ≡ cond out 0 y
byte_at true b true x y p q h e = p refl
byte_at true true false x y p q h e = p refl ∙ sym (q refl)
byte_at true false false x y p q h e = absurd (both_ways false refl h)
byte_at false b true x y p q h e = absurd (both_ways _ (and_right (not b) false refl) (sym h))
byte_at false b false x y p q h e = e refl

left_at : (r : Bool) (X : Set) (x k : ℕ) → left r X x k ≡ cond r (X k) (X k && not (k == x))
left_at true X x k = refl
left_at false X x k = refl

module _ (places : List ℕ) (cs : List Contract) (E : Set) (ns : List ℕ) (o : Ordered Rank cs E ns) where
  abbrev room : ℕ → Bool
  room k = free places cs E k

  -- the row has just the contracts of the list
  among_is : Within (length cs) E → (k : ℕ) → among ns k ≡ E k
  among_is w k = same_bool _ _
      (λ h. let r = among_place ns k h in let P : ℕ → Type 0 = λ j. E j ≡ true in subst P r.2 (lined_in o r.0 r.1).0)
      (λ h. let r = lined_all o k (w k h) h in among_at ns r.0 k r.1 r.2)

  pub cut_none : (seen : List ℕ) → ((v : ℕ) → slice_index seen v ≡ 0) → Cut places cs E ns seen E 0
  cut_none seen z = record { seen_is = z; left_is = λ k. sym (and_true (E k)) }

  -- what was seen at the dredger of the next contract is what ranks above it
  seen_room : (seen : List ℕ) (T : Set) (i : ℕ) → i < length ns → Cut places cs E ns seen T i → has_room places seen cs (slice_index ns i) ≡ room (slice_index ns i)
  seen_room seen T i l h =
      ap (λ x. ltb x (reserve places cs (slice_index ns i))) (h.seen_is (contract_at cs (slice_index ns i)).dredger ∙ sym (lined-ahead o i all l))

  cut_at : (seen seen' : List ℕ) (T T' : Set) (i : ℕ) → i < length ns → Cut places cs E ns seen T i
      → Sees cs seen seen' (slice_index ns i) → T' ≡ left (has_room places seen cs (slice_index ns i)) T (slice_index ns i)
      → Cut places cs E ns seen' T' (i + 1)
  cut_at seen seen' T T' i l h s t = record {
    seen_is = λ v. s v ∙ ap (λ x. x + cond ((contract_at cs (slice_index ns i)).dredger == v) 1 0) (h.seen_is v)
        ∙ sym (sum_by_more (λ j. cond ((contract_at cs j).dredger == v) 1 0) ns i 0 l);
    left_is = λ k. ap (λ (X : Set). X k) t
        ∙ left_at (has_room places seen cs (slice_index ns i)) T (slice_index ns i) k
        ∙ ap (λ b. cond b (T k) (T k && not (k == slice_index ns i))) (seen_room seen T i l h)
        ∙ ⊎_elim (here k) (other k) (cases_eq k (slice_index ns i))
        ∙ sym (ap (λ b. E k && not (b && not (room k))) (among_more ns i k l));
  }
    where
      here : (k : ℕ) → k ≡ slice_index ns i
          → cond (room (slice_index ns i)) (T k) (T k && not (k == slice_index ns i)) ≡ (E k && not ((among (take i ns) k || k == slice_index ns i) && not (room k)))
      here k e =
          ap (λ b. cond (room (slice_index ns i)) (T k) (T k && not b)) (eq-eqb _ _ e)
          ∙ ap (λ j. cond (room j) (T k) (T k && not true)) (sym e)
          ∙ left_here (room k) (among (take i ns) k) (T k) (E k) (h.left_is k)
          ∙ sym (ap (λ b. E k && not (b && not (room k))) (or_right (among (take i ns) k) _ (eq-eqb _ _ e)))

      other : (k : ℕ) → (k ≢ slice_index ns i)
          → cond (room (slice_index ns i)) (T k) (T k && not (k == slice_index ns i)) ≡ (E k && not ((among (take i ns) k || k == slice_index ns i) && not (room k)))
      other k ne =
          left_other (room (slice_index ns i)) (T k) (k == slice_index ns i) (ne_eqb _ _ ne)
          ∙ h.left_is k
          ∙ sym (ap (λ b. E k && not ((among (take i ns) k || b) && not (room k))) (ne_eqb _ _ ne)
          ∙ ap (λ b. E k && not (b && not (room k))) (or_false (among (take i ns) k)))

  -- the same by contracts ds that were read
  pub cut_more : (ds : List Contract) (seen seen' : List ℕ) (T T' : Set) (i : ℕ) → ds ≡ cs → i < length ns → Cut places cs E ns seen T i
      → Sees ds seen seen' (slice_index ns i) → T' ≡ left (has_room places seen ds (slice_index ns i)) T (slice_index ns i)
      → Cut places cs E ns seen' T' (i + 1)
  cut_more ds seen seen' T T' i d l h =
      let P : List Contract → Type 0 = λ ds. Sees ds seen seen' (slice_index ns i) → T' ≡ left (has_room places seen ds (slice_index ns i)) T (slice_index ns i)
      → Cut places cs E ns seen' T' (i + 1) in
      subst P (sym d) (cut_at seen seen' T T' i l h)

  -- nobody is seen more often than the row is long
  pub seen_few : (seen : List ℕ) (T : Set) (i v m : ℕ) → length ns ≤ m → Cut places cs E ns seen T i → slice_index seen v ≤ m
  seen_few seen T i v m l h =
      let a = count_by-le-length (λ j. nat_eq (contract_at cs j).dredger v) (take i ns) in
      let b = length-take i ns in
      let c = h.seen_is v in
      omega arith

  -- what the next contract is known by, by contracts ds that were read
  pub next_known : (ds : List Contract) (seen : List ℕ) (T : Set) (i m n : ℕ) → ds ≡ cs → i < length ns → length ns ≤ m → Cut places cs E ns seen T i
      → ((k : ℕ) → E k ≡ true → (contract_at cs k).dredger < n)
      → (slice_index ns i < length ds) × ((contract_at ds (slice_index ns i)).dredger < n) × (slice_index seen (contract_at ds (slice_index ns i)).dredger ≤ m)
  next_known ds seen T i m n d l few h low =
      let P : List Contract → Type 0 = λ ds.
      (slice_index ns i < length ds) × ((contract_at ds (slice_index ns i)).dredger < n) × (slice_index seen (contract_at ds (slice_index ns i)).dredger ≤ m) in
      let r = lined_in o i l in
      subst P (sym d) (r.1, low (slice_index ns i) r.0, seen_few seen T i (contract_at cs (slice_index ns i)).dredger m few h)

  pub cut_all : (seen : List ℕ) (T : Set) (i : ℕ) → length ns ≤ i → Within (length cs) E → Cut places cs E ns seen T i
      → T ≡ first (length cs) all (above cs) (reserve places cs) E
  cut_all seen T i l w h = fun_ext λ k.
      left_end (E k) (room k) (T k)
      (h.left_is k ∙ ap (λ b. E k && not (b && not (room k))) (ap (λ xs. among xs k) (take_all i ns l) ∙ among_is w k))

  -- in marks whose bytes stay while their contract is left, those of the contracts seen that find no place become 0
  pub taken_is : (entry seen taken : List ℕ) (i : ℕ) → member entry ≡ E → Cut places cs E ns seen (member taken) i
      → ((k : ℕ) → member taken k ≡ true → slice_index taken k ≡ slice_index entry k)
      → (k : ℕ) → slice_index taken k ≡ cond (among (take i ns) k && not (room k)) 0 (slice_index entry k)
  taken_is entry seen taken i m h stays k =
      byte_at (slice_index taken k == 0) (slice_index entry k == 0) (among (take i ns) k && not (room k)) _ _ (eqb-true _ 0) (eqb-true _ 0)
      (h.left_is k ∙ ap (λ (X : Set). X k && not (among (take i ns) k && not (room k))) (sym m)) (stays k)

-- among those who may, the first are those of the reserve part
pub reserve_part : (places : List ℕ) (cs : List Contract) (X : Set)
    → first (length cs) all (above cs) (reserve places cs) (common X (entitled_of places cs)) ≡ reserved places cs X
reserve_part places cs X = fun_ext λ k. ⊎_elim (some k) (none k) (cases_lt 0 (reserve places cs k))
  where
    none : (k : ℕ) → reserve places cs k ≤ 0 → first (length cs) all (above cs) (reserve places cs) (common X (entitled_of places cs)) k ≡ reserved places cs X k
    none k z =
        and_left _ _ (and_right (X k) _ (and_right (flagged cs k) _ (le-ltb 0 (reserve places cs k) z)))
        ∙ sym (and_right (X k) _ (and_right (flagged cs k) _ (le-ltb _ (reserve places cs k) (omega arith))))

    some : (k : ℕ) → 0 < reserve places cs k → first (length cs) all (above cs) (reserve places cs) (common X (entitled_of places cs)) k ≡ reserved places cs X k
    some k p =
        ap (λ n. (X k && (flagged cs k && nat_lt 0 (reserve places cs k))) && nat_lt n (reserve places cs k)) (passing_same (length cs) _ _ (λ j l. at j))
        ∙ ap (λ b. (X k && (flagged cs k && b)) && nat_lt (ahead (length cs) (flagged cs) (above cs) X k) (reserve places cs k)) (lt-ltb _ _ p)
        ∙ shuffle (X k) (flagged cs k) _
      where
        shuffle : (a b c : Bool) → ((a && (b && true)) && c) ≡ (a && (b && c))
        shuffle true true c = refl
        shuffle true false c = refl
        shuffle false b c = refl

        with-above : (a b c d : Bool) → (d ≡ true → c ≡ true) → ((a && (b && c)) && d) ≡ (a && (b && d))
        with-above true true c true h = and_from c true (h refl) refl
        with-above true true c false h = and_right c false refl
        with-above true false c d h = refl
        with-above false b c d h = refl

        at : (j : ℕ) → (common X (entitled_of places cs) j && (true && above cs j k)) ≡ (X j && (flagged cs j && above cs j k))
        at j = with-above (X j) (flagged cs j) _ (above cs j k) (λ e. lt-ltb _ _ (let q : reserve places cs j ≡ reserve places cs k = ap (λ d. slice_index places d) (eqb-true _ _ (and_parts (together cs j k) _ e).0) in omega arith))

-- a contract that may take a reserved place is at one of the dredgers that have places
pub entitled-dredger : (places : List ℕ) (c : Contract) (n : ℕ) → length places ≡ n → entitled places c ≡ true → c.dredger < n
entitled-dredger places c n e h =
    ⊎_elim (λ l. l)
    (λ l. let a : 0 < slice_index_or places c.dredger 0 = ltb-true _ _ (and_parts c.flag _ h).1 in let b : slice_index_or places c.dredger 0 ≡ 0 = get_or_past places c.dredger 0 (omega arith) in absurd (omega arith))
    (cases_lt c.dredger n)

-- so is each of those that were written out
pub written_dredgers : (places : List ℕ) (cs : List Contract) (X E : Set) (n : ℕ) → length places ≡ n → E ≡ common X (entitled_of places cs)
    → (k : ℕ) → E k ≡ true → (contract_at cs k).dredger < n
written_dredgers places cs X E n l e k h =
    entitled-dredger places (contract_at cs k) n l (and_parts (X k) (entitled_of places cs k) (ap (λ (Z : Set). Z k) (sym e) ∙ h)).1

-- what the cut leaves of those who may is the reserve part
pub part_is : (places : List ℕ) (cs ds : List Contract) (X E T : Set) → cs ≡ ds → E ≡ common X (entitled_of places cs)
    → T ≡ first (length cs) all (above cs) (reserve places cs) E → T ≡ reserved places ds X
part_is places cs ds X E T d e h =
    h ∙ ap (λ (Z : Set). first (length cs) all (above cs) (reserve places cs) Z) e ∙ reserve_part places cs X ∙ ap (λ (z : List Contract). reserved places z X) d
