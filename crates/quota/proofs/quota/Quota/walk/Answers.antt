use Rattle.std.proofs.Common.{List, refl, ◌∙◌, subst, arith}
use Rattle.std.proofs.lemmas.List.{length-set}
use Rattle.rules.specs.declared.table.Contract.{Contract}
use Rattle.quota.specs.Walk.{Walked}
use Rattle.quota.proofs.Walks.{walking_none, walking_next, walking_all}
use Rattle.quota.proofs.quota.Quota.walk.Goals as goal

pub loop-number-init : goal.loop-number-init
loop-number-init c = record { walks = λ X o. walking_none _ _ X _ _ _ c.new-sums.ensures; long = refl }

pub loop-number-preserved : goal.loop-number-preserved
loop-number-preserved c =
    let here = c.loop-number-test.true in
    let own = c.requires c.loop-number.number-index here in
    record {
      walks = λ X o. walking_next c.args.self.now.earlier c.args.self.now.whole o here (c.loop-number.invariant.walks X o) c.from-k.ensures
          (omega (arith, c.from-k.ensures, own, c.args.deck.now.few_contracts, c.loop-number.invariant.long)) c.count.ensures;
      long = length-set _ _ _ ∙ c.loop-number.invariant.long;
    }

pub returns : goal.returns
returns c =
    let P : List Contract → Type 0 = λ cs. Walked c.args.self.now.rows cs c.args.row.now c.loop-number.stops in
    subst P c.contracts-contracts.ensures (λ X o. walking_all o c.loop-number-test.false (c.loop-number.invariant.walks X o))
