use Rattle.std.proofs.Common.{ap, length, ◌∙◌}
use Rattle.board.specs.Marks.{member}
use Rattle.board.proofs.Copies.{each_kept, refilled}
use Rattle.board.proofs.Marking.{kept_told}
use Rattle.board.proofs.marked.Marked.keep.Goals as goal

pub returns-clause-each : goal.returns-clause-each
returns-clause-each g c =
    each_kept c.args.self.now.marks.items c.deref_mut.result.now c.keep_only.new.marks c.deref_mut.ensures.value c.keep_only.auto.marks c.keep_only.ensures.each

pub returns-clause-kept : goal.returns-clause-kept
returns-clause-kept g c p a =
    let xs = c.args.self.now.marks.items in
    let same = c.keep_only.auto.marks ∙ ap length c.deref_mut.ensures.value in
    kept_told _ (member xs) p _ (ap length (refilled _ xs c.keep_only.new.marks same) ∙ same ∙ c.args.self.now.fits) a
    (λ k h. returns-clause-each g c k (rw c.args.self.now.fits h))
