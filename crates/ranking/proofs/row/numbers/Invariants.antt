use Rattle.std.proofs.Common.{◌≡◌, take}
use Rattle.ranking.specs.Keys.{numbers}
use Rattle.ranking.proofs.row.numbers.Given as goal

abbrev pub invariant-loop-key : goal.invariant-loop-key
invariant-loop-key l = l.row.items ≡ numbers (take l.key-index l.keys)
