-- The questions of intake in their order, the refusal of the first no, and the one verdict on a deck.
use Rattle.std.specs.Prelude.{◌≡◌, ℕ, ◌<◌, ◌≤◌, true, ◌↔◌, List, ◌++◌, length, Ok, Err, Result, ◌≢◌}
use Rattle.format.specs.declared.fault.Layer.{Layer}
use Rattle.format.specs.declared.fault.Layer.TheVariants as L
use Rattle.format.specs.declared.fault.Refusal.{Refusal}
use Rattle.format.specs.declared.record.Kind.{Kind}
use Rattle.format.specs.declared.record.Record.{Record}
use Rattle.format.specs.declared.record.Record.TheVariants as R
use Rattle.format.specs.Layout.{size, Begins, Starts}
use Rattle.rules.specs.declared.section.Section.TheVariants.{Closed}
use Rattle.rules.specs.Contents.{Content}
use Rattle.rules.specs.Order.{may}
use Rattle.rules.specs.Rules.{Room, InRange, Fresh}
use Rattle.intake.specs.declared.counts.Counts.{Counts}
use Rattle.intake.specs.declared.fault.DeckFault.{DeckFault}
use Rattle.intake.specs.declared.fault.DeckFault.TheVariants.{Records, SmallTable, TooLong, WrongCount, Trailing, OtherTables}
use Rattle.intake.specs.Refusals.{by_deck, refusal}
use Rattle.intake.specs.Rows.{Row, ◌▸◌, encodes, section_of, listed, Passes, Spells}
use Rattle.intake.specs.Fillings.{Roomy, Holds, blanks}

-- the questions that are put to each record in turn
pub data Question : Type 0 where
  there : Question
  known : Question
  stands : Question
  whole : Question
  room : Question
  ranged : Question
  fresh : Question

abbrev pub number : Question → ℕ
number there = 3
number known = 4
number stands = 5
number whole = 6
number room = 7
number ranged = 8
number fresh = 9

abbrev pub layer : Question → Layer
layer there = L.Bytes
layer known = L.Bytes
layer stands = L.Records
layer whole = L.Bytes
layer room = L.Records
layer ranged = L.Records
layer fresh = L.Records

-- a yes to a question, after the records of a row, at the bytes that are left
abbrev pub Yes : Question → Row → List ℕ → Type 0
Yes there rs rest = 0 < length rest
Yes known rs rest = (k : Kind) × Begins rest k
Yes stands rs rest = (k : Kind) → Begins rest k → may (section_of rs) k ≡ true
Yes whole rs rest = (k : Kind) → Begins rest k → size k ≤ length rest
Yes room rs rest = (k : Kind) → Begins rest k → Room (listed rs) k
Yes ranged rs rest = (r : Record) (more : List ℕ) → Starts rest r more → InRange (listed rs).groups r
Yes fresh rs rest = (r : Record) (more : List ℕ) → Starts rest r more → Fresh (listed rs) r

-- the first no: each earlier question has a yes
pub record FirstNo (q : Question) (rs : Row) (rest : List ℕ) : Type 0 where
  pub earlier : (j : Question) → number j < number q → Yes j rs rest
  pub no : Yes q rs rest → ⊥

-- a deck that is not too long begins with a row of records that pass, and these bytes are left
pub record Reached (all : List ℕ) (rs : Row) (rest : List ℕ) : Type 0 where
  pub short : length all ≤ 15363
  pub bytes_are : all ≡ encodes rs ++ rest
  pub passed : Passes rs

-- the refusals that are due to a deck: it is too long; a record has a no; E gives a wrong number; bytes follow E
pub data Due (all : List ℕ) : Refusal → Type 0 where
  too_long : 15363 < length all → Due all (by_deck 2 0)
  at_record : (rs : Row) (rest : List ℕ) (q : Question) → Reached all rs rest → (section_of rs ≢ Closed) → FirstNo q rs rest →
      Due all (record { number = number q; place = length (encodes rs); layer = layer q })
  wrong_count : (rs : Row) (n : ℕ) (rest : List ℕ) → Reached all (rs ▸ R.End n) rest → (n ≢ length (listed rs).contracts) →
      Due all (by_deck 10 (length (encodes rs)))
  trailing : (rs : Row) (n : ℕ) (rest : List ℕ) → Reached all (rs ▸ R.End n) rest → n ≡ length (listed rs).contracts → 0 < length rest →
      Due all (by_deck 11 (length (encodes (rs ▸ R.End n))))

-- when a fault is due to an E at a place that gives the number n, where w W records stand before it
abbrev pub EndNo : ℕ → ℕ → ℕ → ℕ → ℕ → DeckFault → Type 0
EndNo n w place end size (WrongCount q) = (n ≢ w) × (q ≡ place)
EndNo n w place end size (Trailing q) = (n ≡ w) × (end ≢ size) × (q ≡ end)
EndNo n w place end size (Records f) = ⊥
EndNo n w place end size SmallTable = ⊥
EndNo n w place end size TooLong = ⊥
EndNo n w place end size OtherTables = ⊥

-- intake of these bytes fills these tables and answers these counts
abbrev pub Fills : List ℕ → Counts → Content → Type 0
Fills all c t = (rs : Row) × Spells all rs × Holds (listed rs) c t

-- an answer, and what it leaves of tables that are large enough
abbrev pub Answers : List ℕ → Content → Content → Result Counts DeckFault → Type 0
Answers all t t' (Ok c) = Fills all c t'
Answers all t t' (Err f) = Due all (refusal f) × (t' ≡ blanks t)

-- whether an answer is this refusal
abbrev pub Refused : Result Counts DeckFault → Refusal → Type 0
Refused (Ok c) x = ⊥
Refused (Err f) x = refusal f ≡ x

-- the one verdict on a deck: accepted just where a lawful row spells it, refused just as is due, never both, and with one refusal
pub record Verdict (all : List ℕ) (r : Result Counts DeckFault) : Type 0 where
  pub accepts : ((c : Counts) × (r ≡ Ok c)) ↔ ((rs : Row) × Spells all rs)
  pub refuses : (x : Refusal) → Refused r x ↔ Due all x
  pub not_both : (rs : Row) (x : Refusal) → Spells all rs → Due all x → ⊥
  pub one_refusal : (x y : Refusal) → Due all x → Due all y → x ≡ y

-- what intake answers, and the tables t' that it leaves where they were t
pub record Judged (all : List ℕ) (t t' : Content) (r : Result Counts DeckFault) : Type 0 where
  pub small : (Roomy t → ⊥) → Refused r (by_deck 1 0) × (t' ≡ t)
  pub large : Roomy t → Answers all t t' r × Verdict all r
