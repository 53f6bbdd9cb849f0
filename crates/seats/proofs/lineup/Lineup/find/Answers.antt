use Rattle.std.proofs.Common.{◌+◌, ap, ◌∙◌, arith}
use Rattle.rules.specs.Contents.{contract_at}
use Rattle.board.specs.Marked.{contracts_of, list_of}
use Rattle.seats.proofs.Rows.{passed_all, tail_at}
use Rattle.seats.proofs.lineup.Lineup.find.Goals as goal

pub returns-then-contracts-from : goal.returns-then-contracts-from
returns-then-contracts-from c =
    let t = tail_at _ _ _ _ _ c.deref.ensures.0 c.from.ensures c.requires.may_begin.0 c.loop-i-test.true in
    passed_all (contracts_of c.args.rest.now) (list_of c.args.rest.now) c.args.self.now.numbers.items c.args.from (c.args.from + c.loop-i.i) c.args.dredger
    c.requires.rises c.requires.may_begin.1 (omega arith) t.0 c.loop-i.invariant.passed
    (λ e. c.if-contracts-from.true
    (ap (λ cs. (contract_at cs c.from-in-loop-i.result).dredger) c.contracts-contracts.ensures
    ∙ ap (λ k. (contract_at (contracts_of c.args.rest.now) k).dredger) (c.from-in-loop-i.ensures ∙ t.1) ∙ e))
