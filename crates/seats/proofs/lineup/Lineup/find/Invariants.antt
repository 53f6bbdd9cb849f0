use Rattle.board.specs.Marked.{contracts_of, list_of}
use Rattle.seats.proofs.Rows.{Searched}
use Rattle.seats.proofs.lineup.Lineup.find.Given as goal

abbrev pub invariant-loop-i : goal.invariant-loop-i
invariant-loop-i l = Searched (contracts_of l.rest) (list_of l.rest) l.self.numbers.items l.dredger l.from l.i
