use Rattle.std.proofs.Common.{◌≡◌, take}
use Rattle.moves.specs.Moves.{AllJoin}
use Rattle.line.proofs.all.join_all.Given as goal

abbrev pub invariant-loop-t : goal.invariant-loop-t
invariant-loop-t g l =
    let before = g.L.Line.waiting l.initial.line in
    let now = g.L.Line.waiting l.line in
    (now.places ≡ before.places) × AllJoin g.L.Line.joins before.items (take l.t-index l.trainees) now.items
