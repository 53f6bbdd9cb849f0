-- What seats take is a lawful choice.
use Rattle.std.specs.Prelude.{List, [], ◌∷◌, length, refl}
use Rattle.std.proofs.lemmas.Bool.{false≢true}
use Rattle.rules.specs.declared.table.Contract.{Contract}
use Rattle.rules.specs.declared.table.Rule.{Rule}
use Rattle.rules.specs.declared.table.Seat.{Seat}
use Rattle.rules.specs.Contents.{contract_at, rule_by}
use Rattle.matching.specs.Choices.{Lawful, Strict}
use Rattle.matching.proofs.Firsts.{first-lawful}
use Rattle.matching.proofs.Made.{over-lawful}
use Rattle.seats.specs.Taking.{at, before, takes, seated}
use Rattle.ranking.proofs.Orderings.{rules_order}

pub rule_strict : (cs : List Contract) (rule : Rule) → Strict (before cs rule) (λ k. 1)
rule_strict cs rule = record {
  irreflexive = λ i. (rules_order rule).irreflexive (contract_at cs i) i;
  transitive = λ i j k. (rules_order rule).transitive (contract_at cs i) (contract_at cs j) (contract_at cs k) i j k;
  bound = λ i j e. refl;
}

pub takes-lawful : (s : Seat) (cs : List Contract) → Lawful (length cs) (takes s cs)
takes-lawful s cs = first-lawful (length cs) (at cs s.dredger) (before cs (rule_by s)) (λ k. 1) (rule_strict cs (rule_by s))

pub seated-lawful : (ss : List Seat) (cs : List Contract) → Lawful (length cs) (seated ss cs)
seated-lawful [] cs = record {
  part = λ X w k e. absurd (false≢true e);
  substitutable = λ X Y w p k x e. refl;
  irrelevant = λ X Y w p q. refl;
}
seated-lawful (s ∷ ss) cs = over-lawful (length cs) (takes s cs) (seated ss cs) (takes-lawful s cs) (seated-lawful ss cs)
