use Rattle.std.proofs.Common.{◌≡◌}
use Rattle.board.specs.Marked.{contracts_of, deck_of, list_of}
use Rattle.reserve.specs.Cutting.{Cut}
use Rattle.reserve.proofs.reserves.Reserves.cut.Given as goal

abbrev pub invariant-loop-k : goal.invariant-loop-k
invariant-loop-k l =
    (deck_of l.taken ≡ deck_of l.initial.taken)
    × Cut l.self.places (contracts_of l.initial.taken) (list_of l.initial.taken) l.row l.seen (list_of l.taken) l.k-index
