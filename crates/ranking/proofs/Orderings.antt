-- Each rule is a strict order in which any two contracts compare, and so is the rank.
use Rattle.std.proofs.Common.{◌≡◌, ℕ, Bool, true, false, ◌&&◌, ◌||◌, eqb, ltb, List, arith}
use Rattle.std.proofs.lemmas.Bool.Decides.{nat_tests}
use Rattle.rules.specs.declared.table.Contract.{Contract}
use Rattle.rules.specs.declared.table.Rule.{Rule}
use Rattle.rules.specs.declared.table.Rule.TheVariants.{Rank, Lot, Term}
use Rattle.ranking.specs.Rank.{better, above, together, lower_lot, lower_term, prefers, RulesOrder, RankOrders}

better_trans : (a b c : Contract) (i j k : ℕ) → better a b i j ≡ true → better b c j k ≡ true → better a c i k ≡ true
better_trans a b c i j k p q = grind (arith, nat_tests)

lot_trans : (a b c : Contract) (i j k : ℕ) → lower_lot a b i j ≡ true → lower_lot b c j k ≡ true → lower_lot a c i k ≡ true
lot_trans a b c i j k p q = grind (arith, nat_tests)

-- first by a number, then by another order
lex_trans : (x y z : ℕ) (p q r : Bool) → (p ≡ true → q ≡ true → r ≡ true)
    → (ltb x y || (eqb x y && p)) ≡ true → (ltb y z || (eqb y z && q)) ≡ true → (ltb x z || (eqb x z && r)) ≡ true
lex_trans x y z p q r h e f = grind (arith, nat_tests)

term_trans : (a b c : Contract) (i j k : ℕ) → lower_term a b i j ≡ true → lower_term b c j k ≡ true → lower_term a c i k ≡ true
term_trans a b c i j k p q =
    lex_trans a.term b.term c.term (better a b i j) (better b c j k) (better a c i k) (better_trans a b c i j k) p q

pub prefers_irrefl : (rule : Rule) (a : Contract) (i : ℕ) → prefers rule a a i i ≡ false
prefers_irrefl Rank a i = grind (arith, nat_tests)
prefers_irrefl Lot a i = grind (arith, nat_tests)
prefers_irrefl Term a i = grind (arith, nat_tests)

pub prefers_trans : (rule : Rule) (a b c : Contract) (i j k : ℕ) → prefers rule a b i j ≡ true → prefers rule b c j k ≡ true → prefers rule a c i k ≡ true
prefers_trans Rank = better_trans
prefers_trans Lot = lot_trans
prefers_trans Term = term_trans

prefers_total : (rule : Rule) (a b : Contract) (i j : ℕ) → (i ≡ j → ⊥) → prefers rule a b i j ≡ false → prefers rule b a j i ≡ true
prefers_total Rank a b i j ne p = grind (arith, nat_tests)
prefers_total Lot a b i j ne p = grind (arith, nat_tests)
prefers_total Term a b i j ne p = grind (arith, nat_tests)

pub above_irrefl : (cs : List Contract) (i : ℕ) → above cs i i ≡ false
above_irrefl cs i = grind (arith, nat_tests)

pub above_trans : (cs : List Contract) (i j k : ℕ) → above cs i j ≡ true → above cs j k ≡ true → above cs i k ≡ true
above_trans cs i j k p q = grind (arith, nat_tests)

above_total : (cs : List Contract) (i j : ℕ) → (i ≡ j → ⊥) → together cs i j ≡ true → above cs i j ≡ false → above cs j i ≡ true
above_total cs i j ne t p = grind (arith, nat_tests)

pub rules_order : RulesOrder
rules_order rule = record { irreflexive = prefers_irrefl rule; transitive = prefers_trans rule; total = prefers_total rule }

pub rank_orders : RankOrders
rank_orders = record { irreflexive = above_irrefl; transitive = above_trans; total = above_total }
