use Rattle.seats.specs.Seats.{seats_of}
use Rattle.seats.proofs.Sittings.{Sitting}
use Rattle.seats.proofs.seats.Seats.seat_all.Given as goal

abbrev pub invariant-loop-seat : goal.invariant-loop-seat
invariant-loop-seat l = Sitting (seats_of l.self) l.initial.rest l.rest l.lineups l.seat-index
