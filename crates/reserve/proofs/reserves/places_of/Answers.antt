use Rattle.std.proofs.Common.{refl}
use Rattle.reserve.proofs.Reserving.{reserving_none, reserving_all}
use Rattle.reserve.proofs.reserves.places_of.Goals as goal

pub loop-entry-init : goal.loop-entry-init
loop-entry-init c = (refl, reserving_none c.args.reserves.now 64)

pub returns : goal.returns
returns c =
    reserving_all c.args.reserves.now c.loop-entry.entry-index c.loop-entry.places c.loop-entry-test.false c.loop-entry.auto.entry-index-end c.loop-entry.invariant.1
