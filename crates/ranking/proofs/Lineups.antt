-- What a row says: who stands in it, in which order, and how many stand ahead of a place.
use Rattle.std.proofs.Common.{◌≡◌, ℕ, zero, suc, ◌+◌, ◌<◌, ◌≤◌, Bool, true, false, cond, ◌&&◌, List, [], ◌∷◌, ◌++◌, length, get_or, take, drop, count_by, sym, refl, ap, ◌∙◌, subst, ⊎_elim, arith}
use Rattle.std.proofs.ByRecursion.{All-append, All-weaker, All-get_or, All-from_get_or, has_append_left, has_push, all_shuffled, has_shuffled}
use Rattle.std.proofs.lemmas.List.{get_or-take, get_or-drop, length-take-le, length-drop}
use Rattle.std.proofs.lemmas.List.Sums.{sum_by-cons, sum_by-take-drop}
use Rattle.std.proofs.lemmas.List.Sorted.{sum_by-IsPermutation}
use Rattle.std.proofs.lemmas.Bool.Decides.{nat_tests}
use Rattle.std.proofs.lemmas.Bool.{and_right, both_ways, cases_eq, eqb-true, eq-eqb}
use Rattle.std.specs.List.{ContainsAt as Has, AllByRecursion as All}
use Rattle.rules.specs.declared.table.Contract.{Contract}
use Rattle.rules.specs.declared.table.Rule.{Rule}
use Rattle.rules.specs.declared.table.Rule.TheVariants.{Rank}
use Rattle.rules.specs.Contents.{contract_at}
use Rattle.moves.specs.Bags.{passing}
use Rattle.moves.proofs.Bags.{total_same}
use Rattle.matching.specs.Sets.{Set, rising}
use Rattle.matching.proofs.Sets.{and_true}
use Rattle.ranking.specs.Rank.{together, prefers, above}
use Rattle.ranking.specs.Rows.{precedes, Ordered}
use Rattle.ranking.proofs.Orderings.{prefers_irrefl, prefers_trans}
use Rattle.ranking.proofs.Risings.{rising_sum, shuffled_apart}

-- ---- the numbers in rising order

one_all : (n : ℕ) (X : Set) (b : Bool) → X n ≡ b → All (λ k. (X k ≡ true) × (k < suc n)) (cond b (n ∷ []) [])
one_all n X true h = ((h, omega arith), tt)
one_all n X false h = tt

rising_all : (n : ℕ) (X : Set) → All (λ k. (X k ≡ true) × (k < n)) (rising n X)
rising_all zero X = tt
rising_all (suc n) X =
    All-append (λ k. (X k ≡ true) × (k < suc n)) (rising n X) (cond (X n) (n ∷ []) [])
    (All-weaker (λ k. (X k ≡ true) × (k < n)) (λ k. (X k ≡ true) × (k < suc n)) (λ k h. (h.0, omega (arith, h.1))) (rising n X) (rising_all n X))
    (one_all n X (X n) refl)

rising_has : (n : ℕ) (X : Set) (k : ℕ) → k < n → X k ≡ true → Has (rising n X) k
rising_has zero X k l x = absurd (omega arith)
rising_has (suc n) X k l x = ⊎_elim
    (λ (e : k ≡ n). subst (Has (rising (suc n) X)) (sym e)
    (subst (λ b. Has (rising n X ++ cond b (n ∷ []) []) n) (sym x ∙ ap X e) (has_push (rising n X) n)))
    (λ (ne : k ≡ n → ⊥). has_append_left (rising n X) (cond (X n) (n ∷ []) []) k (rising_has n X k (omega arith) x))
    (cases_eq k n)

-- ---- counts

count_by_same : (p q : ℕ → Bool) (xs : List ℕ) → All (λ x. p x ≡ q x) xs → count_by p xs ≡ count_by q xs
count_by_same p q [] h = refl
count_by_same p q (x ∷ xs) h =
    sum_by-cons (λ y. cond (p y) 1 0) x xs
    ∙ (λ i. cond (h.0 i) 1 0 + count_by_same p q xs h.1 i)
    ∙ sym (sum_by-cons (λ y. cond (q y) 1 0) x xs)

count_by_none : (p : ℕ → Bool) (xs : List ℕ) → All (λ x. p x ≡ false) xs → count_by p xs ≡ 0
count_by_none p [] h = refl
count_by_none p (x ∷ xs) h =
    sum_by-cons (λ y. cond (p y) 1 0) x xs ∙ (λ i. cond (h.0 i) 1 0 + count_by_none p xs h.1 i)

count_all : (xs : List ℕ) → count_by (λ _. true) xs ≡ length xs
count_all [] = refl
count_all (x ∷ xs) = omega (arith, sum_by-cons (λ (y : ℕ). 1) x xs, count_all xs)

add_zero : (n : ℕ) → n + 0 ≡ n
add_zero n = omega arith

nested : (a b : Bool) → ◌≡◌ {A = ℕ} (cond a (cond b 1 0) 0) (cond (a && b) 1 0)
nested a b = grind arith

-- ---- who comes before whom

pub precedes_itself : (rule : Rule) (cs : List Contract) (k : ℕ) → precedes rule cs k k ≡ false
precedes_itself rule cs k = let h = prefers_irrefl rule (contract_at cs k) k in grind (arith, nat_tests)

-- within one dredger it is the rule that says who comes first
pub precedes_by_rule : (rule : Rule) (cs : List Contract) (i j : ℕ) → precedes rule cs i j ≡ true → together cs i j ≡ true
    → prefers rule (contract_at cs i) (contract_at cs j) i j ≡ true
precedes_by_rule rule cs i j h t = grind (arith, nat_tests)

pub precedes_dredgers : (rule : Rule) (cs : List Contract) (i j : ℕ) → precedes rule cs i j ≡ true → (contract_at cs i).dredger ≤ (contract_at cs j).dredger
precedes_dredgers rule cs i j h = grind (arith, nat_tests)

pub together_back : (cs : List Contract) (i j : ℕ) → together cs i j ≡ true → together cs j i ≡ true
together_back cs i j h = eq-eqb _ _ (sym (eqb-true _ _ h))

-- whoever precedes k and is of its dredger goes ahead of it, and no one else
ahead_of : (rule : Rule) (cs : List Contract) (q : ℕ → Bool) (j k : ℕ) → precedes rule cs j k ≡ true
    → (q j && (together cs j k && prefers rule (contract_at cs j) (contract_at cs k) j k)) ≡ (q j && together cs j k)
ahead_of rule cs q j k h = grind (arith, nat_tests)

not_behind : (rule : Rule) (cs : List Contract) (q : ℕ → Bool) (j k : ℕ) → precedes rule cs k j ≡ true
    → (q j && (together cs j k && prefers rule (contract_at cs j) (contract_at cs k) j k)) ≡ false
not_behind rule cs q j k h = and_right (q j) _ (go (together cs j k) _ (λ t p.
    both_ways (prefers rule (contract_at cs j) (contract_at cs j) j j) (prefers_irrefl rule (contract_at cs j) j)
    (prefers_trans rule (contract_at cs j) (contract_at cs k) (contract_at cs j) j k j p (precedes_by_rule rule cs k j h (together_back cs j k t)))))
  where
    go : (t p : Bool) → (t ≡ true → p ≡ true → ⊥) → (t && p) ≡ false
    go true true f = absurd (f refl refl)
    go true false f = refl
    go false p f = refl

not_itself : (rule : Rule) (cs : List Contract) (q : ℕ → Bool) (k : ℕ)
    → (q k && (together cs k k && prefers rule (contract_at cs k) (contract_at cs k) k k)) ≡ false
not_itself rule cs q k = grind (arith, nat_tests)

module _ {rule : Rule} {cs : List Contract} {X : Set} {ns : List ℕ} (o : Ordered rule cs X ns) where
  pub lined_in : (i : ℕ) → i < length ns → (X (get_or ns i 0) ≡ true) × (get_or ns i 0 < length cs)
  lined_in i l =
      All-get_or (λ k. (X k ≡ true) × (k < length cs)) ns i 0 l
      (all_shuffled (λ k. (X k ≡ true) × (k < length cs)) (rising (length cs) X) ns o.same (rising_all (length cs) X))

  pub lined_all : (k : ℕ) → k < length cs → X k ≡ true → (i : ℕ) × (i < length ns) × (get_or ns i 0 ≡ k)
  lined_all k l x =
      let h = has_shuffled (rising (length cs) X) ns k o.same (rising_has (length cs) X k l x) in
      (h.0, h.1, h.2 0)

  pub lined_apart : (i j : ℕ) → i < j → j < length ns → get_or ns i 0 ≡ get_or ns j 0 → ⊥
  lined_apart = shuffled_apart (length cs) X ns o.same

  pub lined_dredgers : (i j : ℕ) → i ≤ j → j < length ns → (contract_at cs (get_or ns i 0)).dredger ≤ (contract_at cs (get_or ns j 0)).dredger
  lined_dredgers i j l m = ⊎_elim
      (λ (e : i ≡ j). subst (λ n. (contract_at cs (get_or ns i 0)).dredger ≤ (contract_at cs (get_or ns n 0)).dredger) e (omega arith))
      (λ (ne : i ≡ j → ⊥). precedes_dredgers rule cs (get_or ns i 0) (get_or ns j 0) (o.sorted i j (omega arith) m))
      (cases_eq i j)

  pub lined_count : (p : ℕ → Bool) → passing (length cs) (λ j. X j && p j) ≡ count_by p ns
  lined_count p =
      total_same (length cs) (λ j. cond (X j && p j) 1 0) (λ j. cond (X j) (cond (p j) 1 0) 0) (λ j l. sym (nested (X j) (p j)))
      ∙ sym (rising_sum (λ j. cond (p j) 1 0) (length cs) X)
      ∙ sym (sum_by-IsPermutation (λ j. cond (p j) 1 0) (rising (length cs) X) ns o.same)

  pub lined_length : passing (length cs) X ≡ length ns
  lined_length =
      total_same (length cs) (λ j. cond (X j) 1 0) (λ j. cond (X j && true) 1 0) (λ j l. ap (λ b. cond b 1 0) (sym (and_true (X j))))
      ∙ lined_count (λ _. true) ∙ count_all ns

  -- as many of X go ahead of the contract at a place, and pass a test, as stand before that place, are of its dredger and pass the test
  pub lined_before : (i : ℕ) (q : ℕ → Bool) → i < length ns
      → passing (length cs) (λ j. X j && (q j && (together cs j (get_or ns i 0) && prefers rule (contract_at cs j) (contract_at cs (get_or ns i 0)) j (get_or ns i 0))))
      ≡ count_by (λ j. q j && together cs j (get_or ns i 0)) (take i ns)
  lined_before i q l =
      lined_count p
      ∙ sym (sum_by-take-drop (λ j. cond (p j) 1 0) ns i)
      ∙ (λ t. count_by_same p (λ j. q j && together cs j k) (take i ns) front t + count_by_none p (drop i ns) back t)
      ∙ add_zero (count_by (λ j. q j && together cs j k) (take i ns))
    where
      k : ℕ
      k = get_or ns i 0

      p : ℕ → Bool
      p j = q j && (together cs j k && prefers rule (contract_at cs j) (contract_at cs k) j k)

      front : All (λ j. p j ≡ (q j && together cs j k)) (take i ns)
      front = All-from_get_or (λ j. p j ≡ (q j && together cs j k)) (take i ns) 0 (λ a m.
          let b : a < i = omega (arith, m, length-take-le i ns (omega arith)) in
          subst (λ j. p j ≡ (q j && together cs j k)) (sym (get_or-take i ns a 0 b)) (ahead_of rule cs q (get_or ns a 0) k (o.sorted a i b l)))

      behind : (a : ℕ) → i + a < length ns → p (get_or ns (i + a) 0) ≡ false
      behind a m = ⊎_elim
          (λ (e : a ≡ 0). let f : i + a ≡ i = omega arith in subst (λ n. p (get_or ns n 0) ≡ false) (sym f) (not_itself rule cs q k))
          (λ (ne : a ≡ 0 → ⊥). not_behind rule cs q (get_or ns (i + a) 0) k (o.sorted i (i + a) (omega arith) m))
          (cases_eq a 0)

      back : All (λ j. p j ≡ false) (drop i ns)
      back = All-from_get_or (λ j. p j ≡ false) (drop i ns) 0 (λ a m.
          subst (λ j. p j ≡ false) (sym (get_or-drop i ns a 0)) (behind a (omega (arith, m, length-drop i ns))))

-- the same by rank
pub lined-ahead : {cs : List Contract} {X : Set} {ns : List ℕ} (o : Ordered Rank cs X ns) (i : ℕ) (q : ℕ → Bool) → i < length ns
    → passing (length cs) (λ j. X j && (q j && above cs j (get_or ns i 0))) ≡ count_by (λ j. q j && together cs j (get_or ns i 0)) (take i ns)
lined-ahead o i q l = lined_before o i q l
