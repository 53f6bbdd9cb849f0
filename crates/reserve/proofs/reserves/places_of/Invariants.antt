use Rattle.std.proofs.Common.{◌≡◌, length}
use Rattle.reserve.specs.Reserves.{Reserving}
use Rattle.reserve.proofs.reserves.places_of.Given as goal

abbrev pub invariant-loop-entry : goal.invariant-loop-entry
invariant-loop-entry l = (length l.places ≡ 64) × Reserving l.reserves l.entry-index l.places
