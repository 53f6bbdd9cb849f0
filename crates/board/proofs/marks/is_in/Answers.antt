use Rattle.std.proofs.Common.{sym, ◌∙◌}
use Rattle.std.proofs.lemmas.Bool.{le-ltb}
use Rattle.board.proofs.Marking.{member_past}
use Rattle.board.proofs.marks.is_in.Goals as goal

pub returns-else-k-marks : goal.returns-else-k-marks
returns-else-k-marks c = le-ltb _ _ c.if-k-marks.false ∙ sym (member_past c.args.marks.now c.args.k c.if-k-marks.false)
