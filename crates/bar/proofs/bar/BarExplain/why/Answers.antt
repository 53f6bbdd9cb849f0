use Rattle.std.proofs.Common.{◌≡◌, true, false, not, List, length, ap, sym, ◌∙◌, rules}
use Rattle.deck.specs.Contents.{data_of, bytes_of}
use Rattle.deck.specs.declared.deck.Deck.{Deck}
use Rattle.rules.specs.declared.table.Contract.{Contract}
use Rattle.rules.specs.Contents.{contract_at}
use Rattle.board.specs.Marked.{marks_of, contracts_of}
use Rattle.board.proofs.Through.{explained_without, explained_struck, read_at}
use Rattle.board.proofs.Copies.{copied_without}
use Rattle.bar.specs.Bar.{bars_of}
use Rattle.bar.specs.Bars.{barred}
use Rattle.bar.proofs.Barring.{said_of}
use Rattle.bar.proofs.bar.BarExplain.why.Goals as goal

pub returns-then-bars : goal.returns-then-bars
returns-then-bars g c =
    let s = c.args.self.now in
    let d = c.args.deck.now in
    let t = data_of d in
    let k = c.args.k in
    let ps = bars_of s in
    let cs = c.contracts-contracts.result.now in
    let listed = c.in_ok-is_listed.ensures in
    let b : barred ps t.contracts k ≡ true =
    read_at (barred ps cs) (barred ps t.contracts) k true (ap (λ (z : List Contract). barred ps z) c.contracts-contracts.ensures) (rw c.from.ensures at c.if-bars.ensures) in
    let e = explained_struck (g.C.Board.kept s.below t) (g.C.Explain.reason s.below t) (barred ps t.contracts) (λ j. (4, (contract_at t.contracts j).dredger))
    (length t.contracts) c.args.marks.now k (g.met.C.Board.part s.below t (bytes_of d, d.lawful)) listed.0 listed.1 (sym listed.2 ∙ c.if-not-branch.false) b in
    (e.0, e.1, said_of cs t.contracts k c.from-then-bars.result _ (c.from-then-bars.ensures ∙ ap (λ i. (contract_at cs i).dredger) c.from.ensures) c.contracts-contracts.ensures e.2)

pub returns : goal.returns
returns g c =
    let s = c.args.self.now in
    let t = data_of c.args.deck.now in
    let k = c.args.k in
    let ps = bars_of s in
    let cs = c.contracts-contracts.result.now in
    let listed = c.in_ok-is_listed.ensures in
    let rest = c.in_ok-rest.rest in
    let B = barred ps cs in
    let same : B ≡ barred ps t.contracts = ap (λ (z : List Contract). barred ps z) c.contracts-contracts.ensures in
    let struck = copied_without B (barred ps t.contracts) (length (contracts_of rest)) (length t.contracts) (marks_of rest) c.marks.result.now c.args.marks.now
    rest.fits (ap (λ (d : Deck). length (data_of d).contracts) c.in_ok-rest.ensures.0) c.in_ok-rest.ensures.1 same
    (c.marks.ensures ∙ c.keep.ensures.kept (λ j. not (B j)) (λ j b h q. search rules)) in
    explained_without (g.C.Board.kept s.below t) (g.C.Explain.reason s.below t) (barred ps t.contracts) (λ j. (4, (contract_at t.contracts j).dredger))
    (length t.contracts) c.args.marks.now c.marks.result.now k c.why.result listed.0 struck.0 listed.1 struck.1 (sym listed.2 ∙ c.if-not-branch.false)
    (read_at B (barred ps t.contracts) k false same (rw c.from.ensures at c.if-bars.ensures)) c.why.ensures
