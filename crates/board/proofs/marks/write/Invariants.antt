use Rattle.std.proofs.Common.{◌≡◌, ℕ, ◌<◌, ◌≤◌, cond, get_or}
use Rattle.board.specs.Marks.{member}
use Rattle.board.proofs.marks.write.Given as goal

abbrev pub invariant-loop-k : goal.invariant-loop-k
invariant-loop-k l =
    ((j : ℕ) → j < l.k → get_or l.marks j 0 ≡ cond (member l.list j) l.byte (get_or l.initial.marks j 0))
    × ((j : ℕ) → l.k ≤ j → get_or l.marks j 0 ≡ get_or l.initial.marks j 0)
