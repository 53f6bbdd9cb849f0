-- The order of a deck's parts: groups, seats, reserves, trainees. E may end any part.
use Rattle.std.specs.Prelude.{Bool, true, false}
use Rattle.format.specs.declared.record.Kind.{Kind}
use Rattle.format.specs.declared.record.Kind.TheVariants as K
use Rattle.rules.specs.declared.section.Section.{Section}
use Rattle.rules.specs.declared.section.Section.TheVariants.{Groups, Seats, Reserves, Trainees, Closed}

-- whether a record of this kind may stand after one of this part; wishes and bars stand after a trainee, nothing after E
abbrev pub may : Section → Kind → Bool
may Groups K.Group = true
may Groups K.Seat = true
may Groups K.Reserve = true
may Groups K.Trainee = true
may Groups K.Wish = false
may Groups K.Bar = false
may Groups K.End = true
may Seats K.Group = false
may Seats K.Seat = true
may Seats K.Reserve = true
may Seats K.Trainee = true
may Seats K.Wish = false
may Seats K.Bar = false
may Seats K.End = true
may Reserves K.Group = false
may Reserves K.Seat = false
may Reserves K.Reserve = true
may Reserves K.Trainee = true
may Reserves K.Wish = false
may Reserves K.Bar = false
may Reserves K.End = true
may Trainees K.Group = false
may Trainees K.Seat = false
may Trainees K.Reserve = false
may Trainees K.Trainee = true
may Trainees K.Wish = true
may Trainees K.Bar = true
may Trainees K.End = true
may Closed k = false

-- the part that a record of this kind belongs to
abbrev pub after : Kind → Section
after K.Group = Groups
after K.Seat = Seats
after K.Reserve = Reserves
after K.Trainee = Trainees
after K.Wish = Trainees
after K.Bar = Trainees
after K.End = Closed
