use Rattle.std.proofs.Common.{false, not, eqb, sym, refl, ap, ◌∙◌, arith}
use mir.Val.{bool_byte}
use Rattle.std.proofs.lemmas.Bool.{false≢true}
use Rattle.std.proofs.lemmas.List.{get_or-set_other}
use Rattle.board.specs.Marks.{member}
use Rattle.board.proofs.Marking.{byte_in, byte_out, kept_more, kept_told, read_in, read_out}
use Rattle.board.proofs.marks.keep_only.Goals.{then-mark-ne0, else-mark-ne0}
use Rattle.board.proofs.marks.keep_only.Goals as goal

pub loop-k-preserved : goal.loop-k-preserved
loop-k-preserved g c =
    let same = c.loop-k.invariant.2 c.loop-k.k (omega arith) in (
      c.loop-k.invariant.0,
      kept_more (member c.args.marks.now) c.loop-k.marks c.loop-k.k c.from.result (rw c.loop-k.auto.marks c.loop-k-test.true) c.loop-k.invariant.1
          (elim c.if-mark-ne0.branch [
            | then-mark-ne0 w ↦ (
              w.keeps.result,
              (λ x. w.keeps.ensures),
              byte_in bool_byte refl refl (member c.args.marks.now c.loop-k.k) _ _ _ (read_in c.args.marks.now c.loop-k.k _ same w.if-mark-ne0.true) w.from-is c.from.ensures,
            )
            | else-mark-ne0 w ↦
                let out = read_out c.args.marks.now c.loop-k.k _ same w.if-mark-ne0.false in
                (false, (λ x. absurd (false≢true (sym out ∙ x))), byte_out bool_byte refl _ _ _ out (w.from-is ∙ ap (λ m. not (eqb m 0)) w.if-mark-ne0.false) c.from.ensures)
          ]),
      λ j h. get_or-set_other c.loop-k.marks c.loop-k.k j c.from.result 0 (λ e. omega arith) ∙ c.loop-k.invariant.2 j (omega arith),
    )

pub returns-clause-each : goal.returns-clause-each
returns-clause-each g c k h = c.loop-k.invariant.1 k (omega arith)

pub returns-clause-kept : goal.returns-clause-kept
returns-clause-kept g c p a = kept_told _ (member c.args.marks.now) p c.loop-k.marks c.loop-k.auto.marks a (λ k h. c.loop-k.invariant.1 k (omega arith))
