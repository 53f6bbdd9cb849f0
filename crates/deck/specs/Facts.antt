-- What holds of the entries of every deck, for whoever reads one.
use Rattle.std.specs.Prelude.{◌≡◌, ℕ, ◌+◌, ◌<◌, ◌≤◌, Bool, true, ◌&&◌, List, length, Some, None, IsOk, ◌≢◌, nat_le, slice_index}
use Rattle.rules.specs.declared.table.Group.{Group}
use Rattle.rules.specs.declared.table.Seat.{Seat}
use Rattle.rules.specs.declared.table.Reservation.{Reservation}
use Rattle.rules.specs.declared.table.Trainee.{Trainee}
use Rattle.rules.specs.declared.table.Contract.{Contract}
use Rattle.rules.specs.declared.table.Barring.{Barring}
use Rattle.rules.specs.Contents.{group_at, seat_at, reserve_at, trainee_at, contract_at, bar_at}
use Rattle.rules.specs.Rules.{IsDredger}

-- a byte of a name is one of 32 to 126
abbrev pub printed : ℕ → Bool
printed b = nat_le 32 b && nat_le b 126

-- i and j are numbers below n, i the lower
abbrev pub Two : ℕ → ℕ → ℕ → Type 0
Two i j n = (i < j) × (j < n)

-- a parent is an earlier group
abbrev pub Earlier : List Group → Type 0
Earlier gs = (g p : ℕ) → g < length gs → (group_at gs g).parent ≡ Some p → p < g

-- a group without parent is its own dredger
abbrev pub Own : List Group → Type 0
Own gs = (g : ℕ) → g < length gs → (group_at gs g).parent ≡ None → (group_at gs g).dredger ≡ g

-- any other has its parent's
abbrev pub Inherited : List Group → Type 0
Inherited gs = (g p : ℕ) → g < length gs → (group_at gs g).parent ≡ Some p → (group_at gs g).dredger ≡ (group_at gs p).dredger

-- a group's dredger is a given dredger
abbrev pub Topped : List Group → Type 0
Topped gs = (g : ℕ) → g < length gs → IsDredger gs (group_at gs g).dredger

-- eight bytes of 32 to 126 stand at a name's place
abbrev pub GroupNames : List ℕ → List Group → Type 0
GroupNames all gs = (g : ℕ) → g < length gs → (group_at gs g).name + 8 ≤ length all

abbrev pub GroupsPrinted : List ℕ → List Group → Type 0
GroupsPrinted all gs = (g i : ℕ) → (g < length gs) × (i < 8) → printed (slice_index all ((group_at gs g).name + i)) ≡ true

-- a seat is at a given dredger, and has one of the three rules
abbrev pub SeatsGiven : List Group → List Seat → Type 0
SeatsGiven gs ss = (k : ℕ) → k < length ss → IsDredger gs (seat_at ss k).dredger

abbrev pub SeatRules : List Seat → Type 0
SeatRules ss = (k : ℕ) → k < length ss → IsOk (seat_at ss k).rule

-- a reserve is at a given dredger, which has no other
abbrev pub ReservesGiven : List Group → List Reservation → Type 0
ReservesGiven gs rs = (k : ℕ) → k < length rs → IsDredger gs (reserve_at rs k).dredger

abbrev pub ReservesApart : List Reservation → Type 0
ReservesApart rs = (i j : ℕ) → Two i j (length rs) → (reserve_at rs i).dredger ≢ (reserve_at rs j).dredger

-- no two trainees share a lot
abbrev pub LotsApart : List Trainee → Type 0
LotsApart ts = (i j : ℕ) → Two i j (length ts) → (trainee_at ts i).lot ≢ (trainee_at ts j).lot

abbrev pub TraineeNames : List ℕ → List Trainee → Type 0
TraineeNames all ts = (t : ℕ) → t < length ts → (trainee_at ts t).name + 8 ≤ length all

abbrev pub TraineesPrinted : List ℕ → List Trainee → Type 0
TraineesPrinted all ts = (t i : ℕ) → (t < length ts) × (i < 8) → printed (slice_index all ((trainee_at ts t).name + i)) ≡ true

-- a contract is of a given trainee, whose lot and flag it carries
abbrev pub TraineesGiven : List Trainee → List Contract → Type 0
TraineesGiven ts cs = (k : ℕ) → k < length cs → (contract_at cs k).trainee < length ts

abbrev pub LotsCarried : List Trainee → List Contract → Type 0
LotsCarried ts cs = (k : ℕ) → k < length cs → (contract_at cs k).lot ≡ (trainee_at ts (contract_at cs k).trainee).lot

abbrev pub FlagsCarried : List Trainee → List Contract → Type 0
FlagsCarried ts cs = (k : ℕ) → k < length cs → (contract_at cs k).flag ≡ (trainee_at ts (contract_at cs k).trainee).flag

-- a contract is for a given group, whose dredger it carries; its term is 0 to 9
abbrev pub GroupsGiven : List Group → List Contract → Type 0
GroupsGiven gs cs = (k : ℕ) → k < length cs → (contract_at cs k).group < length gs

abbrev pub DredgersCarried : List Group → List Contract → Type 0
DredgersCarried gs cs = (k : ℕ) → k < length cs → (contract_at cs k).dredger ≡ (group_at gs (contract_at cs k).group).dredger

abbrev pub Terms : List Contract → Type 0
Terms cs = (k : ℕ) → k < length cs → (contract_at cs k).term ≤ 9

-- contracts stand by trainees in rising number, so a trainee's contracts are consecutive
abbrev pub Rising : List Contract → Type 0
Rising cs = (i j : ℕ) → Two i j (length cs) → (contract_at cs i).trainee ≤ (contract_at cs j).trainee

-- a trainee has at most one wish for one dredger
abbrev pub WishesApart : List Contract → Type 0
WishesApart cs = (i j : ℕ) → Two i j (length cs) → ((contract_at cs i).trainee ≡ (contract_at cs j).trainee) × ((contract_at cs i).dredger ≡ (contract_at cs j).dredger) → ⊥

-- a bar is of a given trainee, for a given dredger, and there is no second one
abbrev pub BarTrainees : List Trainee → List Barring → Type 0
BarTrainees ts bs = (k : ℕ) → k < length bs → (bar_at bs k).trainee < length ts

abbrev pub BarsGiven : List Group → List Barring → Type 0
BarsGiven gs bs = (k : ℕ) → k < length bs → IsDredger gs (bar_at bs k).dredger

abbrev pub BarsApart : List Barring → Type 0
BarsApart bs = (i j : ℕ) → Two i j (length bs) → ((bar_at bs i).trainee ≡ (bar_at bs j).trainee) × ((bar_at bs i).dredger ≡ (bar_at bs j).dredger) → ⊥
