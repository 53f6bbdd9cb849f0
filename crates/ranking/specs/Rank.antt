-- In which order a dredger's contracts come: by rank, and by the two other rules that a seat may have.
use Rattle.std.specs.Prelude.{◌≡◌, ℕ, Bool, true, false, ◌&&◌, ◌||◌, List, ◌==◌, ◌≢◌, nat_lt}
use Rattle.rules.specs.declared.table.Contract.{Contract}
use Rattle.rules.specs.declared.table.Rule.{Rule}
use Rattle.rules.specs.declared.table.Rule.TheVariants.{Rank, Lot, Term}
use Rattle.rules.specs.Contents.{contract_at}

-- more points; on equal points the lower lot, then the lower number
abbrev pub better : Contract → Contract → ℕ → ℕ → Bool
better a b i j =
    nat_lt b.points a.points
    || (a.points == b.points && (nat_lt a.lot b.lot || (a.lot == b.lot && nat_lt i j)))

-- contracts i and j are of one dredger
abbrev pub together : List Contract → ℕ → ℕ → Bool
together cs i j = (contract_at cs i).dredger == (contract_at cs j).dredger

-- contract i ranks above contract j
abbrev pub above : List Contract → ℕ → ℕ → Bool
above cs i j = together cs i j && better (contract_at cs i) (contract_at cs j) i j

-- the lower lot, then the lower number
abbrev pub lower_lot : Contract → Contract → ℕ → ℕ → Bool
lower_lot a b i j = nat_lt a.lot b.lot || (a.lot == b.lot && nat_lt i j)

-- the lower term, then by rank
abbrev pub lower_term : Contract → Contract → ℕ → ℕ → Bool
lower_term a b i j = nat_lt a.term b.term || (a.term == b.term && better a b i j)

-- contract a, number i, comes before contract b, number j, by a rule
abbrev pub prefers : Rule → Contract → Contract → ℕ → ℕ → Bool
prefers Rank = better
prefers Lot = lower_lot
prefers Term = lower_term

-- what every rule is: a strict order in which any two contracts compare
pub record Orders (before : Contract → Contract → ℕ → ℕ → Bool) : Type 0 where
  pub irreflexive : (a : Contract) (i : ℕ) → before a a i i ≡ false
  pub transitive : (a b c : Contract) (i j k : ℕ) → before a b i j ≡ true → before b c j k ≡ true → before a c i k ≡ true
  pub total : (a b : Contract) (i j : ℕ) → (i ≢ j) → before a b i j ≡ false → before b a j i ≡ true

abbrev pub RulesOrder : Type 0
RulesOrder = (rule : Rule) → Orders (prefers rule)

-- ranking above is strict, it chains, and of two contracts of one dredger one ranks above the other
pub record RankOrders : Type 0 where
  pub irreflexive : (cs : List Contract) (i : ℕ) → above cs i i ≡ false
  pub transitive : (cs : List Contract) (i j k : ℕ) → above cs i j ≡ true → above cs j k ≡ true → above cs i k ≡ true
  pub total : (cs : List Contract) (i j : ℕ) → (i ≢ j) → together cs i j ≡ true → above cs i j ≡ false → above cs j i ≡ true
