-- A deck as a row of records, each judged by those before it, and the entries that they fill.
use Rattle.std.specs.Prelude.{◌≡◌, ℕ, ◌+◌, ◌<◌, cond, List, [], ◌∷◌, ◌++◌, length, Ok, ◌==◌}
use Rattle.format.specs.declared.reader.Reader.{Reader}
use Rattle.format.specs.declared.record.Record.{Record}
use Rattle.format.specs.declared.record.Record.TheVariants as R
use Rattle.format.specs.Layout.{kind, encode}
use Rattle.rules.specs.declared.section.Section.{Section}
use Rattle.rules.specs.declared.section.Section.TheVariants.{Groups, Trainees}
use Rattle.rules.specs.declared.table.Group.{Group}
use Rattle.rules.specs.declared.table.Contract.{Contract}
use Rattle.rules.specs.Contents.{Content, nothing, parent_of, rule_of, group_at, trainee_at}
use Rattle.rules.specs.Order.{after}
use Rattle.rules.specs.Rules.{Admitted, Allowed, current}
use Rattle.intake.specs.declared.entry.Entry.{Entry}
use Rattle.intake.specs.declared.entry.Entry.TheVariants as E

-- a group without parent is its own dredger, any other has its parent's; its name begins four bytes after its kind byte
abbrev pub entry_of_group : Content → ℕ → ℕ → ℕ → Group
entry_of_group t place p c = record {
  parent = parent_of p;
  capacity = c;
  name = place + 4;
  dredger = cond (p == 255) (length t.groups) (group_at t.groups p).dredger;
}

-- a wish belongs to the trainee before it, whose lot and flag it carries
abbrev pub entry_of_wish : Content → ℕ → ℕ → ℕ → Contract
entry_of_wish t g p m = record {
  trainee = current t;
  group = g;
  dredger = (group_at t.groups g).dredger;
  points = p;
  term = m;
  lot = (trainee_at t.trainees (current t)).lot;
  flag = (trainee_at t.trainees (current t)).flag;
}

-- the entry of a record at a place, after those with these entries
abbrev pub entry_of : Content → ℕ → Record → Entry
entry_of t place (R.Group p c n) = E.Group (entry_of_group t place p c)
entry_of t place (R.Seat d r) = E.Seat (record { dredger = d; rule = Ok (rule_of r) })
entry_of t place (R.Reserve d s) = E.Reserve (record { dredger = d; seats = s })
entry_of t place (R.Trainee l f n) = E.Trainee (record { lot = l; flag = (f == 1); name = place + 4 })
entry_of t place (R.Wish g p m) = E.Contract (entry_of_wish t g p m)
entry_of t place (R.Bar d) = E.Bar (record { trainee = current t; dredger = d })
entry_of t place (R.End n) = E.End n

-- one entry more, at the end of its table
abbrev pub pushed : Content → Entry → Content
pushed t (E.Group x) = record { groups = t.groups ++ (x ∷ []); seats = t.seats; reserves = t.reserves; trainees = t.trainees; contracts = t.contracts; bars = t.bars }
pushed t (E.Seat x) = record { groups = t.groups; seats = t.seats ++ (x ∷ []); reserves = t.reserves; trainees = t.trainees; contracts = t.contracts; bars = t.bars }
pushed t (E.Reserve x) = record { groups = t.groups; seats = t.seats; reserves = t.reserves ++ (x ∷ []); trainees = t.trainees; contracts = t.contracts; bars = t.bars }
pushed t (E.Trainee x) = record { groups = t.groups; seats = t.seats; reserves = t.reserves; trainees = t.trainees ++ (x ∷ []); contracts = t.contracts; bars = t.bars }
pushed t (E.Contract x) = record { groups = t.groups; seats = t.seats; reserves = t.reserves; trainees = t.trainees; contracts = t.contracts ++ (x ∷ []); bars = t.bars }
pushed t (E.Bar x) = record { groups = t.groups; seats = t.seats; reserves = t.reserves; trainees = t.trainees; contracts = t.contracts; bars = t.bars ++ (x ∷ []) }
pushed t (E.End n) = t

infixl 20 ◌▸◌
-- records, the newest last
pub data Row : Type 0 where
  none : Row
  ◌▸◌ : Row → Record → Row

-- the bytes that spell a row
abbrev pub encodes : Row → List ℕ
encodes none = []
encodes (rs ▸ r) = encodes rs ++ encode r

-- the part that a row has come to
abbrev pub section_of : Row → Section
section_of none = Groups
section_of (rs ▸ r) = after (kind r)

-- the entries of a row
abbrev pub listed : Row → Content
listed none = nothing
listed (rs ▸ r) = pushed (listed rs) (entry_of (listed rs) (length (encodes rs)) r)

-- every record may stand where it does and keeps the rules, given those before it
abbrev pub Passes : Row → Type 0
Passes none = Unit {0}
Passes (rs ▸ r) = Passes rs × Allowed (section_of rs) (listed rs) r

-- a row and the E that ends it, which gives the number of W records
abbrev pub ended : Row → Row
ended rs = rs ▸ R.End (length (listed rs).contracts)

-- these bytes, and no others, are the deck of this lawful row
pub record Spells (all : List ℕ) (rs : Row) : Type 0 where
  pub bytes_are : all ≡ encodes (ended rs)
  pub passes : Passes (ended rs)

-- a wish or a bar has a trainee before it
abbrev pub Belongs : Content → Record → Type 0
Belongs t (R.Group p c n) = Unit {0}
Belongs t (R.Seat d r) = Unit {0}
Belongs t (R.Reserve d s) = Unit {0}
Belongs t (R.Trainee l f n) = Unit {0}
Belongs t (R.Wish g p m) = 0 < length t.trainees
Belongs t (R.Bar d) = 0 < length t.trainees
Belongs t (R.End n) = Unit {0}

-- in the trainees' part there is a trainee
abbrev pub Led : Section → Content → Type 0
Led s t = s ≡ Trainees → 0 < length t.trainees

-- the entry of the record that was taken off a reader and is allowed, and the section after it
abbrev pub Entered : Section → Content → Reader → Reader → Entry × Section → Type 0
Entered s t old new x = (r : Record) × Admitted s t old new (r, x.1) × (x.0 ≡ entry_of t old.place r)
