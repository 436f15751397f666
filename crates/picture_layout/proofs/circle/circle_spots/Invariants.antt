use Rattle.std.proofs.Common.{◌≡◌, length}
use Rattle.picture_layout.proofs.circle.circle_spots.Given as goal

-- as many as were gone over
abbrev pub invariant-loop-k : goal.invariant-loop-k
invariant-loop-k l = length l.spots ≡ l.k
