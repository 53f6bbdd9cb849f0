use Rattle.std.proofs.Common.{◌≡◌, ℕ, ◌<◌, ◌≤◌, Bool, true, ◌&&◌, cond, length, get_or}
use Rattle.board.specs.Marks.{member}
use Rattle.board.proofs.marks.keep_only.Given as goal

abbrev pub invariant-loop-k : goal.invariant-loop-k
invariant-loop-k g l =
    ((k : ℕ) → k < length l.initial.marks → goal.F-pre g l.keeps k)
    × ((j : ℕ) → j < l.k → (b : Bool) × (member l.initial.marks j ≡ true → goal.F-post g l.keeps j b)
    × (get_or l.marks j 0 ≡ cond (member l.initial.marks j && b) 1 0))
    × ((j : ℕ) → l.k ≤ j → get_or l.marks j 0 ≡ get_or l.initial.marks j 0)
