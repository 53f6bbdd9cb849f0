use Rattle.std.proofs.Common.{refl, sym, subst}
use Rattle.deck.specs.declared.deck.Deck.{Deck}
use Rattle.deck.specs.Contents.{data_of}
use Rattle.board.specs.Marked.{list_of}
use Rattle.ranking.proofs.Lineups.{lined_in}
use Rattle.quota.specs.Walk.{Told}
use Rattle.quota.proofs.Walks.{listed_order}
use Rattle.quota.proofs.quota.Quota.find_stops.Goals as goal

pub walk-requires : goal.walk-requires
walk-requires c i l = (lined_in (listed_order c.args.list.now (sym c.deck.ensures, refl) c.deref.ensures.0 c.row_by-row.ensures) i l).1

pub returns : goal.returns
returns c =
    subst (λ (d : Deck). Told c.args.self.now.rows (data_of d).contracts (list_of c.args.list.now) c.walk.result) c.deck.ensures
    (c.walk.ensures _ (listed_order c.args.list.now (sym c.deck.ensures, refl) c.deref.ensures.0 c.row_by-row.ensures))
