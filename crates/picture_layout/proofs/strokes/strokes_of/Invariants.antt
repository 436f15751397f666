use Rattle.std.proofs.Common.{◌≡◌, length}
use Rattle.picture_layout.proofs.strokes.strokes_of.Given as goal

-- as many as were gone over
abbrev pub invariant-loop-e : goal.invariant-loop-e
invariant-loop-e l = length l.strokes ≡ l.e
