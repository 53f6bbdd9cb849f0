use Rattle.std.proofs.Common.{arith}
use Rattle.line.proofs.Ends.{joined_room}
use Rattle.line.proofs.all.join_all.Goals as goal

pub returns-in_err-join : goal.returns-in_err-join
returns-in_err-join g c =
    let lt = joined_room _ _ _ _ _ _ c.loop-t-test.true c.loop-t.invariant.1 (c.has_room.ensures.0 c.if-not-has_room.false) in
    absurd (omega (arith, c.loop-t.invariant.0, c.in_err-join.ensures.0))
