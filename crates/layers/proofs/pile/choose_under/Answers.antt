use Rattle.std.proofs.Common.{rules}
use Rattle.layers.proofs.Piling.{chosen_piled}
use Rattle.layers.proofs.pile.choose_under.Goals as goal

pub returns : goal.returns
returns g c = search (rules, chosen_piled g.C.Board.kept)
