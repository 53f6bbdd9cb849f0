-- What seats take of a list.
use Rattle.std.specs.Prelude.{ℕ, Bool, List, [], ◌∷◌, length, ◌==◌}
use Rattle.rules.specs.declared.table.Contract.{Contract}
use Rattle.rules.specs.declared.table.Rule.{Rule}
use Rattle.rules.specs.declared.table.Seat.{Seat}
use Rattle.rules.specs.Contents.{contract_at, rule_by}
use Rattle.matching.specs.Sets.{Set, none}
use Rattle.matching.specs.Choices.{Choice, over, first}
use Rattle.ranking.specs.Rank.{prefers}

-- the contracts at a dredger
abbrev pub at : List Contract → ℕ → Set
at cs dredger k = (contract_at cs k).dredger == dredger

-- contract i comes before contract j by a rule
abbrev pub before : List Contract → Rule → ℕ → ℕ → Bool
before cs rule i j = prefers rule (contract_at cs i) (contract_at cs j) i j

-- the first contract at a dredger by a rule
abbrev pub first_at : ℕ → Rule → List Contract → Choice
first_at dredger rule cs = first (length cs) (at cs dredger) (before cs rule) (λ k. 1)

-- a seat takes the first contract at its dredger, by its rule
abbrev pub takes : Seat → List Contract → Choice
takes s cs = first_at s.dredger (rule_by s) cs

-- in list order each seat takes of what is left
abbrev pub seated : List Seat → List Contract → Choice
seated [] cs X = none
seated (s ∷ ss) cs X = over (takes s cs) (seated ss cs) X
