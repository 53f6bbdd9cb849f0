use Rattle.std.proofs.Common.{refl}
use Rattle.seats.proofs.Rows.{points_none}
use Rattle.seats.proofs.lineup.starts.Goals as goal

pub loop-i-init : goal.loop-i-init
loop-i-init c = points_none c.args.contracts.now _ _ _ refl
