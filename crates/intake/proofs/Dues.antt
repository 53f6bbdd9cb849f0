-- From the faults of the code to the refusals of the book.
use Rattle.std.proofs.Common.{rules, ◌≡◌, ℕ, ◌<◌, ◌≤◌, true, List, length, subst, arith}
use Rattle.format.specs.declared.fault.ByteFault.TheVariants.{NoByte, NoKind, Short}
use Rattle.format.specs.declared.fault.Refusal.{Refusal}
use Rattle.format.specs.declared.record.Kind.{Kind}
use Rattle.format.specs.declared.record.Record.{Record}
use Rattle.format.specs.Layout.{kind, size, Begins, Starts}
use Rattle.format.proofs.Unique.{one_kind, one_record, begun}
use Rattle.rules.specs.declared.fault.RecordFault.{RecordFault}
use Rattle.rules.specs.declared.fault.RecordFault.TheVariants.{Bytes, Misplaced, Full, Range, Repeat}
use Rattle.rules.specs.declared.section.Section.{Section}
use Rattle.rules.specs.declared.section.Section.TheVariants.{Closed}
use Rattle.rules.specs.Contents.{Content}
use Rattle.rules.specs.Order.{may}
use Rattle.rules.specs.Refusals.{record_refusal}
use Rattle.rules.specs.Rules.{Room, InRange, Fresh, Allowed, RecordNo}
use Rattle.intake.specs.Rows.{Row, encodes, section_of, listed}
use Rattle.intake.specs.Book.{Question, there, known, stands, whole, room, ranged, fresh, number, layer, Yes, FirstNo, Reached, Due, at_record}

module _ (rs : Row) (rest : List ℕ) where
  -- what the kind at the next byte answers
  by_kind : (P : Kind → Type 0) (k : Kind) → Begins rest k → P k → (j : Kind) → Begins rest j → P j
  by_kind P k b h j a = subst P (one_kind rest k j b a) h

  -- what a whole record at the next byte answers
  by_record : (P : Record → Type 0) (r : Record) (more : List ℕ) → Starts rest r more → P r → (q : Record) (x : List ℕ) → Starts rest q x → P q
  by_record P r more s h q x a = subst P (one_record rest r q more x s a).0 h

  module _ (r : Record) (more : List ℕ) (s : Starts rest r more) where
    pub yes-known : Yes known rs rest
    yes-known = (kind r, (begun rest r more s).0)

    pub yes-stands : may (section_of rs) (kind r) ≡ true → Yes stands rs rest
    yes-stands h = by_kind (λ (k : Kind). may (section_of rs) k ≡ true) (kind r) (begun rest r more s).0 h

    pub yes-whole : Yes whole rs rest
    yes-whole = by_kind (λ (k : Kind). size k ≤ length rest) (kind r) (begun rest r more s).0 (begun rest r more s).1

    pub yes-room : Room (listed rs) (kind r) → Yes room rs rest
    yes-room h = by_kind (λ (k : Kind). Room (listed rs) k) (kind r) (begun rest r more s).0 h

    pub yes-ranged : InRange (listed rs).groups r → Yes ranged rs rest
    yes-ranged h = by_record (λ (q : Record). InRange (listed rs).groups q) r more s h

    pub yes-fresh : Fresh (listed rs) r → Yes fresh rs rest
    yes-fresh h = by_record (λ (q : Record). Fresh (listed rs) q) r more s h

    -- a record that is allowed has a yes to every question
    pub all_yes : Allowed (section_of rs) (listed rs) r → (q : Question) → Yes q rs rest
    all_yes a there = (begun rest r more s).0.0
    all_yes a known = yes-known
    all_yes a stands = yes-stands a.stands
    all_yes a whole = yes-whole
    all_yes a room = yes-room a.ruled.room
    all_yes a ranged = yes-ranged a.ruled.range
    all_yes a fresh = yes-fresh a.ruled.fresh

  -- the yes of each question before one, each where it is wanted
  before : (n : ℕ) → n ≤ 9 → (3 < n → Yes there rs rest) → (4 < n → Yes known rs rest) → (5 < n → Yes stands rs rest) →
      (6 < n → Yes whole rs rest) → (7 < n → Yes room rs rest) → (8 < n → Yes ranged rs rest) → (j : Question) → number j < n → Yes j rs rest
  before n m a b c d e f there lt = a lt
  before n m a b c d e f known lt = b lt
  before n m a b c d e f stands lt = c lt
  before n m a b c d e f whole lt = d lt
  before n m a b c d e f room lt = e lt
  before n m a b c d e f ranged lt = f lt
  before n m a b c d e f fresh lt = absurd (omega arith)

never : {X : Type 0} (m n : ℕ) → n ≤ m → m < n → X
never m n h l = absurd (omega arith)

abbrev question : RecordFault → Question
question (Bytes (NoByte p)) = there
question (Bytes (NoKind p)) = known
question (Bytes (Short p)) = whole
question (Misplaced p) = stands
question (Full p) = room
question (Range p) = ranged
question (Repeat p) = fresh

-- a fault is the first no
first_no : (rs : Row) (rest : List ℕ) (p : ℕ) (f : RecordFault) → RecordNo (section_of rs) (listed rs) rest p f → FirstNo (question f) rs rest
first_no rs rest p (Bytes (NoByte q)) h = record {
  earlier = before rs rest 3 (omega arith) (never 3 3 (omega arith)) (never 4 3 (omega arith)) (never 5 3 (omega arith)) (never 6 3 (omega arith)) (never 7 3 (omega arith)) (never 8 3 (omega arith));
  no = λ y. omega (arith, h.0.0, y);
}
first_no rs rest p (Bytes (NoKind q)) h = record {
  earlier = before rs rest 4 (omega arith) (λ _. h.0.0) (never 4 4 (omega arith)) (never 5 4 (omega arith)) (never 6 4 (omega arith)) (never 7 4 (omega arith)) (never 8 4 (omega arith));
  no = λ y. h.0.1 y.0 y.1.1;
}
first_no rs rest p (Misplaced q) h = record {
  earlier = before rs rest 5 (omega arith) (λ _. h.0.1.0) (λ _. (h.0.0, h.0.1)) (never 5 5 (omega arith)) (never 6 5 (omega arith)) (never 7 5 (omega arith)) (never 8 5 (omega arith));
  no = λ y. let a = y h.0.0 h.0.1 in let b = h.0.2 in search rules;
}
first_no rs rest p (Bytes (Short q)) h = record {
  earlier = before rs rest 6 (omega arith) (λ _. h.0.0.1.0) (λ _. (h.0.0.0, h.0.0.1)) (λ _. h.1) (never 6 6 (omega arith)) (never 7 6 (omega arith)) (never 8 6 (omega arith));
  no = λ y. let a = y h.0.0.0 h.0.0.1 in omega (arith, a, h.0.0.2);
}
first_no rs rest p (Full q) h = let r = h.0 in let m = h.1 in let s = h.2 in record {
  earlier = before rs rest 7 (omega arith) (λ _. (begun rest r m s).0.0) (λ _. yes-known rs rest r m s) (λ _. yes-stands rs rest r m s h.3) (λ _. yes-whole rs rest r m s) (never 7 7 (omega arith)) (never 8 7 (omega arith));
  no = λ y. h.4.0 (y (kind r) (begun rest r m s).0);
}
first_no rs rest p (Range q) h = let r = h.0 in let m = h.1 in let s = h.2 in record {
  earlier = before rs rest 8 (omega arith) (λ _. (begun rest r m s).0.0) (λ _. yes-known rs rest r m s) (λ _. yes-stands rs rest r m s h.3) (λ _. yes-whole rs rest r m s) (λ _. yes-room rs rest r m s h.4.0) (never 8 8 (omega arith));
  no = λ y. h.4.1 (y r m s);
}
first_no rs rest p (Repeat q) h = let r = h.0 in let m = h.1 in let s = h.2 in record {
  earlier = before rs rest 9 (omega arith) (λ _. (begun rest r m s).0.0) (λ _. yes-known rs rest r m s) (λ _. yes-stands rs rest r m s h.3) (λ _. yes-whole rs rest r m s) (λ _. yes-room rs rest r m s h.4.0) (λ _. yes-ranged rs rest r m s h.4.1);
  no = λ y. h.4.2 (y r m s);
}

refusal_of : (s : Section) (t : Content) (rest : List ℕ) (p : ℕ) (f : RecordFault) → RecordNo s t rest p f →
    record { number = number (question f); place = p; layer = layer (question f) } ≡ record_refusal f
refusal_of s t rest p (Bytes (NoByte q)) h = let e = h.0.1 in cc
refusal_of s t rest p (Bytes (NoKind q)) h = let e = h.0.2 in cc
refusal_of s t rest p (Bytes (Short q)) h = let e = h.0.1 in cc
refusal_of s t rest p (Misplaced q) h = let e = h.1 in cc
refusal_of s t rest p (Full q) h = let e = h.4.1 in cc
refusal_of s t rest p (Range q) h = let e = h.4.2 in cc
refusal_of s t rest p (Repeat q) h = let e = h.4.3 in cc

-- a fault of the record layer is due where it was met
pub due_record : (all rest : List ℕ) (rs : Row) (f : RecordFault) → Reached all rs rest → (section_of rs ≡ Closed → ⊥) →
    RecordNo (section_of rs) (listed rs) rest (length (encodes rs)) f → Due all (record_refusal f)
due_record all rest rs f g o h =
    subst (λ (x : Refusal). Due all x) (refusal_of (section_of rs) (listed rs) rest (length (encodes rs)) f h)
    (at_record rs rest (question f) g o (first_no rs rest (length (encodes rs)) f h))
