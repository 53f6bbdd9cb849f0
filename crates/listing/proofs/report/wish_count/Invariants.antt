use Rattle.std.proofs.Common.{◌≡◌, ◌≤◌, take}
use Rattle.listing.specs.Lines.{wishes}
use Rattle.listing.proofs.report.wish_count.Given as goal

abbrev pub invariant-loop-c : goal.invariant-loop-c
invariant-loop-c l = (l.n ≡ wishes l.trainee (take l.c-index l.contracts)) × (l.n ≤ l.c-index)
