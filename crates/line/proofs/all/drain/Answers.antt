use Rattle.std.proofs.Common.{arith}
use Rattle.moves.proofs.Chains.{length-takes}
use Rattle.line.proofs.all.drain.Goals as goal

pub loop-t-smaller : goal.loop-t-smaller
loop-t-smaller g c = let h = length-takes _ _ _ _ c.in-Some.ensures.0 in omega arith
