use Rattle.std.proofs.Common.{◌+◌, length, get_or, sym, ap, subst, arith}
use Rattle.rules.specs.Contents.{zero_seat}
use Rattle.seats.specs.Seats.{seats_of}
use Rattle.seats.proofs.Sittings.{Sitting, sitting_some, sitting_same, sitting_all}
use Rattle.seats.proofs.seats.Seats.seat_all.Goals as goal
use Rattle.seats.proofs.seats.Seats.seat_all.Goals.{in-Some, in_default}

pub loop-seat-preserved : goal.loop-seat-preserved
loop-seat-preserved c =
    let same = ap length c.deref-seat-items.ensures.0 in
    let here = sym (ap (λ xs. get_or xs c.loop-seat.seat-index zero_seat) c.deref-seat-items.ensures.0) in
    elim c.match-best.branch [
      | in-Some w ↦ subst (λ m. Sitting (seats_of c.args.self.now) c.args.rest.now m c.best.new.self (c.loop-seat.seat-index + 1)) (sym w.rest-is)
          (sitting_some _ _ _ _ _ _ _ _ _ (omega arith) here c.loop-seat.invariant w.take.ensures.deck w.take.ensures.less w.in-Some.ensures.best c.best.ensures.prepared)
      | in_default w ↦ subst (λ m. Sitting (seats_of c.args.self.now) c.args.rest.now m c.best.new.self (c.loop-seat.seat-index + 1)) (sym w.rest-is)
          (sitting_same _ _ _ _ _ _ _ (omega arith) here c.loop-seat.invariant w.in_default.ensures.best c.best.ensures.prepared)
    ]

pub returns-clause-seated : goal.returns-clause-seated
returns-clause-seated c = sitting_all _ _ _ _ _ (let e = ap length c.deref-seat-items.ensures.0 in omega arith) c.loop-seat.invariant
