-- The rules of a record, given the entries of those before it.
use Rattle.std.specs.Prelude.{◌≡◌, ℕ, ◌-◌, ◌<◌, ◌≤◌, true, false, List, length, None, ◌≢◌, All}
use Rattle.format.specs.declared.record.Kind.{Kind}
use Rattle.format.specs.declared.record.Kind.TheVariants as K
use Rattle.format.specs.declared.record.Record.{Record}
use Rattle.format.specs.declared.record.Record.TheVariants.{Group, Seat, Reserve, Trainee, Wish, Bar, End}
use Rattle.format.specs.declared.reader.Reader.{Reader}
use Rattle.format.specs.Layout.{kind, Formed, Begins, Starts}
use Rattle.format.specs.Questions.{ByteNo}
use Rattle.format.specs.Reader.{Took}
use Rattle.rules.specs.declared.fault.RecordFault.{RecordFault}
use Rattle.rules.specs.declared.fault.RecordFault.TheVariants.{Bytes, Misplaced, Full, Range, Repeat}
use Rattle.rules.specs.declared.section.Section.{Section}
use Rattle.rules.specs.declared.table.Group.{Group as GroupEntry}
use Rattle.rules.specs.declared.table.Reservation.{Reservation}
use Rattle.rules.specs.declared.table.Trainee.{Trainee as TraineeEntry}
use Rattle.rules.specs.declared.table.Contract.{Contract}
use Rattle.rules.specs.declared.table.Barring.{Barring}
use Rattle.rules.specs.Contents.{Content, group_at}
use Rattle.rules.specs.Order.{may, after}

-- the most entries of a kind
abbrev pub most : Kind → ℕ
most K.Group = 64
most K.Seat = 256
most K.Reserve = 64
most K.Trainee = 256
most K.Wish = 2048
most K.Bar = 128
most K.End = 1

-- how many entries of a kind there are; an E ends its deck, so none stands before a record
abbrev pub entries : Content → Kind → ℕ
entries t K.Group = length t.groups
entries t K.Seat = length t.seats
entries t K.Reserve = length t.reserves
entries t K.Trainee = length t.trainees
entries t K.Wish = length t.contracts
entries t K.Bar = length t.bars
entries t K.End = 0

abbrev pub Room : Content → Kind → Type 0
Room t k = entries t k < most k

-- each byte of a name is one of 32 to 126
abbrev pub Printable : List ℕ → Type 0
Printable n = All (λ b. (32 ≤ b) × (b ≤ 126)) n

-- a given group without parent
abbrev pub IsDredger : List GroupEntry → ℕ → Type 0
IsDredger gs d = (d < length gs) × ((group_at gs d).parent ≡ None)

-- no parent, or an earlier group
abbrev pub IsParent : List GroupEntry → ℕ → Type 0
IsParent gs p = (p ≢ 255) → p < length gs

-- a parent is none or an earlier group, a wish's group a given one, a dredger field a given dredger
abbrev pub InRange : List GroupEntry → Record → Type 0
InRange gs (Group p c n) = IsParent gs p × Printable n
InRange gs (Seat d r) = IsDredger gs d × (r ≤ 2)
InRange gs (Reserve d s) = IsDredger gs d
InRange gs (Trainee l f n) = (f ≤ 1) × Printable n
InRange gs (Wish g p m) = (g < length gs) × (m ≤ 9)
InRange gs (Bar d) = IsDredger gs d
InRange gs (End n) = Unit {0}

-- the trainee that wishes and bars belong to: the last one
abbrev pub current : Content → ℕ
current t = length t.trainees - 1

-- the dredger has no reserve yet
abbrev pub FreshReserve : List Reservation → ℕ → Type 0
FreshReserve rs d = All (λ e. e.dredger ≢ d) rs

-- no trainee has this lot yet
abbrev pub FreshLot : List TraineeEntry → ℕ → Type 0
FreshLot ts l = All (λ e. e.lot ≢ l) ts

-- the trainee has no wish for a group of this dredger yet
abbrev pub FreshWish : List Contract → ℕ → ℕ → Type 0
FreshWish cs t d = All (λ e. e.trainee ≡ t → e.dredger ≢ d) cs

-- the trainee has no bar for this dredger yet
abbrev pub FreshBar : List Barring → ℕ → ℕ → Type 0
FreshBar bs t d = All (λ e. e.trainee ≡ t → e.dredger ≢ d) bs

-- the record repeats no lot, wish, bar or reserve
abbrev pub Fresh : Content → Record → Type 0
Fresh t (Group p c n) = Unit {0}
Fresh t (Seat d r) = Unit {0}
Fresh t (Reserve d s) = FreshReserve t.reserves d
Fresh t (Trainee l f n) = FreshLot t.trainees l
Fresh t (Wish g p m) = FreshWish t.contracts (current t) (group_at t.groups g).dredger
Fresh t (Bar d) = FreshBar t.bars (current t) d
Fresh t (End n) = Unit {0}

-- a record keeps the rules of its kind
pub record Ruled (t : Content) (r : Record) : Type 0 where
  pub room : Room t (kind r)
  pub range : InRange t.groups r
  pub fresh : Fresh t r

-- a record may follow in a section, after records with these entries
pub record Allowed (s : Section) (t : Content) (r : Record) : Type 0 where
  pub formed : Formed r
  pub stands : may s (kind r) ≡ true
  pub ruled : Ruled t r

-- the first rule that a record at place p breaks
abbrev pub RuleNo : Content → Record → ℕ → RecordFault → Type 0
RuleNo t r p (Bytes f) = ⊥
RuleNo t r p (Misplaced q) = ⊥
RuleNo t r p (Full q) = (Room t (kind r) → ⊥) × (q ≡ p)
RuleNo t r p (Range q) = Room t (kind r) × (InRange t.groups r → ⊥) × (q ≡ p)
RuleNo t r p (Repeat q) = Room t (kind r) × InRange t.groups r × (Fresh t r → ⊥) × (q ≡ p)

-- when a fault of the record layer is due, in a section and after these entries, at what is left and its place
abbrev pub RecordNo : Section → Content → List ℕ → ℕ → RecordFault → Type 0
RecordNo s t rest p (Bytes f) = ByteNo rest p f × ((k : Kind) → Begins rest k → may s k ≡ true)
RecordNo s t rest p (Misplaced q) = ((k : Kind) × Begins rest k × (may s k ≡ false)) × (q ≡ p)
RecordNo s t rest p (Full q) = (r : Record) × (more : List ℕ) × Starts rest r more × (may s (kind r) ≡ true) × RuleNo t r p (Full q)
RecordNo s t rest p (Range q) = (r : Record) × (more : List ℕ) × Starts rest r more × (may s (kind r) ≡ true) × RuleNo t r p (Range q)
RecordNo s t rest p (Repeat q) = (r : Record) × (more : List ℕ) × Starts rest r more × (may s (kind r) ≡ true) × RuleNo t r p (Repeat q)

-- a record was taken off a reader and is allowed, and the section after it
pub record Admitted (s : Section) (t : Content) (old new : Reader) (x : Record × Section) : Type 0 where
  pub took : Took old new x.0
  pub next : x.1 ≡ after (kind x.0)
  pub allowed : Allowed s t x.0
