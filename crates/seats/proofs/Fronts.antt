-- The row of a board's own list holds all its contracts.
use Rattle.std.proofs.Common.{List, ℕ}
use Rattle.rules.specs.declared.table.Rule.{Rule}
use Rattle.board.specs.declared.marked.Marked.{Marked}
use Rattle.board.specs.Marked.{contracts_of, list_of, marks_of}
use Rattle.board.proofs.Marking.{member-within}
use Rattle.ranking.specs.Rows.{InRow}
use Rattle.ranking.proofs.Lineups.{lined_in, lined_all}
use Rattle.seats.specs.Rows.{Holds}

pub lined_holds : (rule : Rule) (m : Marked) (row : List ℕ) → InRow rule (contracts_of m) (list_of m) row → Holds rule (contracts_of m) (list_of m) row
lined_holds rule m row h = record {
  few = h.few;
  known = λ i l. (lined_in h.ordered i l).1;
  sorted = h.ordered.sorted;
  all = λ k x. lined_all h.ordered k (member-within (marks_of m) _ m.fits k x) x;
}
