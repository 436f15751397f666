use Rattle.std.proofs.Common.{◌≡◌, length}
use Rattle.picture_layout.proofs.frame.map_spots.Given as goal

-- as many as were gone over
abbrev pub invariant-loop-n : goal.invariant-loop-n
invariant-loop-n l = length l.spots ≡ l.n
