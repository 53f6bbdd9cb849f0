use Rattle.std.proofs.Common.{length, ap, ◌∙◌, refl}
use Rattle.deck.specs.declared.deck.Deck.{Deck}
use Rattle.deck.specs.Contents.{data_of}
use Rattle.board.specs.Marked.{contracts_of, list_of, marks_of}
use Rattle.board.proofs.Marking.{member-within}
use Rattle.reserve.specs.Cutting.{cut_none, cut_more, cut_all, next_known}
use Rattle.reserve.proofs.Reserving.{get_or-zeros}
use Rattle.reserve.proofs.reserves.Reserves.cut.Goals as goal

pub settle-requires : goal.settle-requires
settle-requires c =
    let t = c.args.taken.now in
    let r = next_known c.args.self.now.places (contracts_of t) (list_of t) c.args.row.now c.requires.row.ordered (contracts_of c.loop-k.taken) c.loop-k.seen
    (list_of c.loop-k.taken) c.loop-k.k-index 2048 64 (ap (λ (d : Deck). (data_of d).contracts) c.loop-k.invariant.0) c.loop-k-test.true c.requires.row.few
    c.loop-k.invariant.1 c.requires.dredgers in
    record { known = r.0; dredger = r.1; few = r.2 }

pub loop-k-init : goal.loop-k-init
loop-k-init c =
    let t = c.args.taken.now in
    (refl, cut_none c.args.self.now.places (contracts_of t) (list_of t) c.args.row.now c.requires.row.ordered _ (get_or-zeros 64))

pub loop-k-preserved : goal.loop-k-preserved
loop-k-preserved c =
    let t = c.args.taken.now in (
      c.settle.ensures.deck ∙ c.loop-k.invariant.0,
      cut_more c.args.self.now.places (contracts_of t) (list_of t) c.args.row.now c.requires.row.ordered (contracts_of c.loop-k.taken) c.loop-k.seen c.settle.new.seen
          (list_of c.loop-k.taken) (list_of c.settle.new.taken) c.loop-k.k-index (ap (λ (d : Deck). (data_of d).contracts) c.loop-k.invariant.0) c.loop-k-test.true
          c.loop-k.invariant.1 c.settle.ensures.seen c.settle.ensures.taken,
    )

pub returns : goal.returns
returns c =
    let t = c.args.taken.now in
    cut_all c.args.self.now.places (contracts_of t) (list_of t) c.args.row.now c.requires.row.ordered c.loop-k.seen (list_of c.loop-k.taken) c.loop-k.k-index
    c.loop-k-test.false (member-within (marks_of t) (length (contracts_of t)) t.fits) c.loop-k.invariant.1
