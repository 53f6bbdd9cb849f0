-- The state of the reading loop after the records of a row.
use Rattle.std.proofs.Common.{◌≡◌, ℕ, ◌≤◌, List, ◌++◌, length, drop, sym, ap, ◌∙◌, append_assoc, append-nil, arith, length-append, drop_of_length-le}
use Rattle.format.specs.declared.record.Record.{Record}
use Rattle.format.specs.declared.reader.Reader.{Reader}
use Rattle.format.specs.Layout.{encode}
use Rattle.format.specs.Reader.{Took}
use Rattle.format.proofs.Unique.{encode_size}
use Rattle.rules.specs.declared.section.Section.{Section}
use Rattle.rules.specs.declared.section.Section.TheVariants.{Closed}
use Rattle.rules.specs.Contents.{Content}
use Rattle.rules.specs.Rules.{Allowed}
use Rattle.intake.specs.declared.counts.Counts.{Counts}
use Rattle.intake.specs.Rows.{Row, ◌▸◌, encodes, section_of, listed, Passes}
use Rattle.intake.specs.Fillings.{Holds, Roomy}

-- the records of a row were read off all, up to a place
pub record Read (all : List ℕ) (place : ℕ) (rs : Row) : Type 0 where
  pub spelled : all ≡ encodes rs ++ drop place all
  pub at : place ≡ length (encodes rs)
  pub passes : Passes rs

pub record State (all : List ℕ) (reader : Reader) (section : Section) (had : Counts) (t : Content) (rs : Row) : Type 0 where
  pub same : reader.bytes.now ≡ all
  pub read : Read all reader.place rs
  pub section_is : section ≡ section_of rs
  pub is_open : section_of rs ≡ Closed → ⊥
  pub holds : Holds (listed rs) had t
  pub roomy : Roomy t

-- one record more was read
pub read_more : {all : List ℕ} {old new : Reader} {rs : Row} (r : Record) → old.bytes.now ≡ all → Read all old.place rs → Took old new r → Allowed (section_of rs) (listed rs) r →
    Read all new.place (rs ▸ r)
read_more {all} {old} {new} {rs} r same h t a =
    let z = encode_size r t.starts.formed in
    let m = t.moved in
    let n = h.at in
    let e : drop old.place all ≡ encode r ++ drop new.place all =
    ap (drop old.place) (sym same) ∙ t.starts.spelled ∙ ap (λ (x : List ℕ). encode r ++ drop new.place x) (t.same ∙ same) in
    record {
      spelled = h.spelled ∙ ap (λ (x : List ℕ). encodes rs ++ x) e ∙ sym (append_assoc (encodes rs) (encode r) (drop new.place all));
      at = simp length-append (omega arith);
      passes = (h.passes, a);
    }

-- nothing is left
pub read_all : {all : List ℕ} {p : ℕ} {rs : Row} → Read all p rs → p ≡ length all → all ≡ encodes rs
read_all {all} {p} {rs} h e =
    let n : length all ≤ p = omega arith in
    h.spelled ∙ ap (λ (t : List ℕ). encodes rs ++ t) (drop_of_length-le all n) ∙ append-nil (encodes rs)
