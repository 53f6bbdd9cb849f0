use Rattle.seats.proofs.Fronts.{lined_holds}
use Rattle.seats.proofs.Rows.{rises_from, points_from}
use Rattle.seats.proofs.lineup.Lineup.of.Goals as goal

pub starts-next-requires : goal.starts-next-requires
starts-next-requires c =
    rises_from _ _ _ _ _ _ c.contracts.ensures c.deref.ensures.0 (lined_holds c.args.rule c.args.rest.now _ c.row_by-numbers.ensures)

pub returns : goal.returns
returns c = record {
  holds = lined_holds c.args.rule c.args.rest.now _ c.row_by-numbers.ensures;
  points = points_from _ _ _ _ _ _ c.contracts.ensures c.deref.ensures.0 c.starts-next.ensures;
}
