-- Tables that hold given entries first and blanks after, to their end.
use Rattle.std.specs.Prelude.{◌≡◌, ℕ, ◌+◌, ◌-◌, ◌<◌, ◌≤◌, List, ◌++◌, length, replicate, slice_set}
use Rattle.rules.specs.declared.table.Group.{Group}
use Rattle.rules.specs.declared.table.Seat.{Seat}
use Rattle.rules.specs.declared.table.Reservation.{Reservation}
use Rattle.rules.specs.declared.table.Trainee.{Trainee}
use Rattle.rules.specs.declared.table.Contract.{Contract}
use Rattle.rules.specs.declared.table.Barring.{Barring}
use Rattle.rules.specs.Contents.{Content, zero_group, zero_seat, zero_reservation, zero_trainee, zero_contract, zero_barring}
use Rattle.intake.specs.declared.counts.Counts.{Counts}
use Rattle.intake.specs.declared.entry.Entry.{Entry}
use Rattle.intake.specs.declared.entry.Entry.TheVariants as E

-- six tables together
abbrev pub tables : List Group → List Seat → List Reservation → List Trainee → List Contract → List Barring → Content
tables gs ss rs ts cs bs = record { groups = gs; seats = ss; reserves = rs; trainees = ts; contracts = cs; bars = bs }

-- tables of these lengths, all blank
abbrev pub blanks : Content → Content
blanks t = record {
  groups = replicate (length t.groups) zero_group;
  seats = replicate (length t.seats) zero_seat;
  reserves = replicate (length t.reserves) zero_reservation;
  trainees = replicate (length t.trainees) zero_trainee;
  contracts = replicate (length t.contracts) zero_contract;
  bars = replicate (length t.bars) zero_barring;
}

-- each table has at least its most entries
pub record Roomy (t : Content) : Type 0 where
  pub groups : 64 ≤ length t.groups
  pub seats : 256 ≤ length t.seats
  pub reserves : 64 ≤ length t.reserves
  pub trainees : 256 ≤ length t.trainees
  pub contracts : 2048 ≤ length t.contracts
  pub bars : 128 ≤ length t.bars

-- each table has just its most entries
pub record Full (t : Content) : Type 0 where
  pub groups : length t.groups ≡ 64
  pub seats : length t.seats ≡ 256
  pub reserves : length t.reserves ≡ 64
  pub trainees : length t.trainees ≡ 256
  pub contracts : length t.contracts ≡ 2048
  pub bars : length t.bars ≡ 128

-- such tables, all blank
abbrev pub blank_book : Content
blank_book = record {
  groups = replicate 64 zero_group;
  seats = replicate 256 zero_seat;
  reserves = replicate 64 zero_reservation;
  trainees = replicate 256 zero_trainee;
  contracts = replicate 2048 zero_contract;
  bars = replicate 128 zero_barring;
}

-- each table of u is as long as that of t
pub record SameLengths (t u : Content) : Type 0 where
  pub groups : length u.groups ≡ length t.groups
  pub seats : length u.seats ≡ length t.seats
  pub reserves : length u.reserves ≡ length t.reserves
  pub trainees : length u.trainees ≡ length t.trainees
  pub contracts : length u.contracts ≡ length t.contracts
  pub bars : length u.bars ≡ length t.bars

-- these entries, and blanks up to n places
abbrev pub padded : {A : Type 0} → A → ℕ → List A → List A
padded d n xs = xs ++ replicate (n - length xs) d

-- a table that holds just these entries and is blank after them; n counts them
pub record Held {A : Type 0} (blank : A) (xs : List A) (n : ℕ) (table : List A) : Type 0 where
  pub count : n ≡ length xs
  pub filled : table ≡ padded blank (length table) xs

-- the six tables t hold the entries x, and c counts them
pub record Holds (x : Content) (c : Counts) (t : Content) : Type 0 where
  pub groups : Held zero_group x.groups c.groups t.groups
  pub seats : Held zero_seat x.seats c.seats t.seats
  pub reserves : Held zero_reservation x.reserves c.reserves t.reserves
  pub trainees : Held zero_trainee x.trainees c.trainees t.trainees
  pub contracts : Held zero_contract x.contracts c.wishes t.contracts
  pub bars : Held zero_barring x.bars c.bars t.bars

-- the table that an entry goes to has a place for it
abbrev pub PlaceFor : Counts → Content → Entry → Type 0
PlaceFor c t (E.Group x) = c.groups < length t.groups
PlaceFor c t (E.Seat x) = c.seats < length t.seats
PlaceFor c t (E.Reserve x) = c.reserves < length t.reserves
PlaceFor c t (E.Trainee x) = c.trainees < length t.trainees
PlaceFor c t (E.Contract x) = c.wishes < length t.contracts
PlaceFor c t (E.Bar x) = c.bars < length t.bars
PlaceFor c t (E.End n) = Unit {0}

-- one entry more in the counts
abbrev pub counted : Counts → Entry → Counts
counted c (E.Group x) = record { groups = c.groups + 1; seats = c.seats; reserves = c.reserves; trainees = c.trainees; wishes = c.wishes; bars = c.bars }
counted c (E.Seat x) = record { groups = c.groups; seats = c.seats + 1; reserves = c.reserves; trainees = c.trainees; wishes = c.wishes; bars = c.bars }
counted c (E.Reserve x) = record { groups = c.groups; seats = c.seats; reserves = c.reserves + 1; trainees = c.trainees; wishes = c.wishes; bars = c.bars }
counted c (E.Trainee x) = record { groups = c.groups; seats = c.seats; reserves = c.reserves; trainees = c.trainees + 1; wishes = c.wishes; bars = c.bars }
counted c (E.Contract x) = record { groups = c.groups; seats = c.seats; reserves = c.reserves; trainees = c.trainees; wishes = c.wishes + 1; bars = c.bars }
counted c (E.Bar x) = record { groups = c.groups; seats = c.seats; reserves = c.reserves; trainees = c.trainees; wishes = c.wishes; bars = c.bars + 1 }
counted c (E.End n) = c

-- an entry written after the entries that were counted
abbrev pub written : Counts → Content → Entry → Content
written c t (E.Group x) = record { groups = slice_set t.groups c.groups x; seats = t.seats; reserves = t.reserves; trainees = t.trainees; contracts = t.contracts; bars = t.bars }
written c t (E.Seat x) = record { groups = t.groups; seats = slice_set t.seats c.seats x; reserves = t.reserves; trainees = t.trainees; contracts = t.contracts; bars = t.bars }
written c t (E.Reserve x) = record { groups = t.groups; seats = t.seats; reserves = slice_set t.reserves c.reserves x; trainees = t.trainees; contracts = t.contracts; bars = t.bars }
written c t (E.Trainee x) = record { groups = t.groups; seats = t.seats; reserves = t.reserves; trainees = slice_set t.trainees c.trainees x; contracts = t.contracts; bars = t.bars }
written c t (E.Contract x) = record { groups = t.groups; seats = t.seats; reserves = t.reserves; trainees = t.trainees; contracts = slice_set t.contracts c.wishes x; bars = t.bars }
written c t (E.Bar x) = record { groups = t.groups; seats = t.seats; reserves = t.reserves; trainees = t.trainees; contracts = t.contracts; bars = slice_set t.bars c.bars x }
written c t (E.End n) = t
