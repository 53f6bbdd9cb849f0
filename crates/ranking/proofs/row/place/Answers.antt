use Rattle.std.proofs.Common.{rules, ap, ◌∙◌}
use Rattle.ranking.proofs.Keying.{rises_from_sort}
use Rattle.ranking.proofs.row.place.Goals as goal

pub returns-clause-placed : goal.returns-clause-placed
returns-clause-placed c = record {
  keys = c.sort_unstable.new.self;
  sorted = record {
    same = c.sort_unstable.ensures.permutation;
    rises = rises_from_sort c.sort_unstable.new.self c.sort_unstable.ensures.sorted;
  };
  are = c.numbers.ensures;
}
