use Rattle.std.proofs.Common.{length, not, refl, rules}
use Rattle.board.proofs.Copies.{kept_without}
use Rattle.bar.specs.Bar.{pairs_of}
use Rattle.bar.specs.Bars.{barred}
use Rattle.bar.proofs.bars.Bars.strike.Goals as goal

pub returns : goal.returns
returns c =
    let B = barred (pairs_of c.args.self.now) c.args.contracts.now in
    kept_without B (length c.args.marks.now) c.args.marks.now c.keep_only.new.marks refl
    (c.keep_only.ensures.kept (λ k. not (B k)) (λ k b h q. search rules))
