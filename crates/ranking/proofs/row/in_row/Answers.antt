use Rattle.std.proofs.Common.{arith}
use Rattle.ranking.proofs.Keying.{placed_row}
use Rattle.ranking.proofs.row.in_row.Goals as goal

pub returns : goal.returns
returns c =
    placed_row _ _ c.loop-k.k _ _ _ c.place.ensures.few (omega arith) c.loop-k.invariant.1 (rw c.deref_mut.ensures.value at c.place.ensures.placed)
