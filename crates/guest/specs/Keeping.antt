-- The choice by points is lawful.
use Rattle.std.specs.Prelude.{ℕ, List}
use Rattle.std.proofs.Math.Path.{fun_ext}
use Rattle.std.proofs.lemmas.Bool.{and_parts, and_from, both_ways}
use Rattle.rules.specs.declared.table.Contract.{Contract}
use Rattle.matching.specs.Choices.{Lawful}
use Rattle.matching.proofs.Sets.{same_bool, outside}
use Rattle.guest.specs.Thresholds.{enough, keeps}

pub lawful : (least : ℕ) (cs : List Contract) {n : ℕ} → Lawful n (keeps least cs)
lawful least cs = record {
  part = λ X w k h. (and_parts (X k) (enough least cs k) h).0;
  substitutable = λ X Y w p k x f.
      outside (keeps least cs Y) k (λ y. both_ways (keeps least cs X k) f (and_from (X k) (enough least cs k) x (and_parts (Y k) (enough least cs k) y).1));
  irrelevant = λ X Y w p q. fun_ext (λ k.
      same_bool (keeps least cs Y k) (keeps least cs X k)
      (λ y. let a = and_parts (Y k) (enough least cs k) y in and_from (X k) (enough least cs k) (p k a.0) a.1)
      (λ x. and_from (Y k) (enough least cs k) (q k x) (and_parts (X k) (enough least cs k) x).1));
}
