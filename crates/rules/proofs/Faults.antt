-- A rule that a whole record breaks is a fault of the record layer.
use Rattle.std.proofs.Common.{◌≡◌, ℕ, true, List, subst}
use Rattle.format.specs.declared.record.Kind.{Kind}
use Rattle.format.specs.declared.record.Record.{Record}
use Rattle.format.specs.Layout.{kind, Begins, Starts}
use Rattle.format.proofs.Unique.{begun, one_kind}
use Rattle.rules.specs.declared.fault.RecordFault.{RecordFault}
use Rattle.rules.specs.declared.fault.RecordFault.TheVariants.{Bytes, Misplaced}
use Rattle.rules.specs.declared.section.Section.{Section}
use Rattle.rules.specs.Contents.{Content}
use Rattle.rules.specs.Order.{may}
use Rattle.rules.specs.Rules.{RuleNo, RecordNo}

module _ (s : Section) (t : Content) (rest : List ℕ) (p : ℕ) (k : Kind) (r : Record) (more : List ℕ) (a : Starts rest r more) (b : Begins rest k) (m : may s k ≡ true) where
  stands : may s (kind r) ≡ true
  stands = subst (λ (j : Kind). may s j ≡ true) (one_kind rest k (kind r) b (begun rest r more a).0) m

  pub broken : (f : RecordFault) → RuleNo t r p f → RecordNo s t rest p f
  broken (Bytes f) h = absurd h
  broken (Misplaced q) h = absurd h
  broken _ h = (r, more, a, stands, h)
