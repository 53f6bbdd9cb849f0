use Rattle.std.proofs.Common.{arith, rules}
use Rattle.board.specs.Marked.{contracts_of, list_of, marks_of}
use Rattle.board.proofs.Marking.{member-within}
use Rattle.seats.proofs.Rows.{holds_rises, points_moved}
use Rattle.seats.proofs.Lefts.{first_given}
use Rattle.seats.proofs.lineup.Lineup.best.Goals as goal

pub find-first-requires-clause-rises : goal.find-first-requires-clause-rises
find-first-requires-clause-rises c = holds_rises _ _ _ _ c.requires.holds

pub returns-clause-best : goal.returns-clause-best
returns-clause-best c =
    first_given c.args.seat.now (contracts_of c.args.rest.now) (list_of c.args.rest.now) c.args.self.now.numbers.items c.requires.holds
    c.find-first.result c.map.result _ (member-within (marks_of c.args.rest.now) _ c.args.rest.now.fits) c.find-first.ensures c.map.ensures.cases
    (λ x r q. search rules)

pub returns-clause-ready : goal.returns-clause-ready
returns-clause-ready c = record {
  holds = c.requires.holds;
  points = points_moved _ _ _ _ c.find-first.result _ _ (omega arith) c.from-place.ensures c.requires.points c.find-first.ensures;
}
