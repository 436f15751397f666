use Rattle.std.proofs.Common.{◌-◌, drop, length}
use Rattle.path_split.specs.inner.Trails.{Has, froms}
use Rattle.path_split.proofs.walk.place_of.Given as goal

-- the node is further on
abbrev pub invariant-loop-i : goal.invariant-loop-i
invariant-loop-i l = Has l.at.0 (froms l.legs (drop l.i l.trail))

abbrev pub decreases-loop-i : goal.decreases-loop-i
decreases-loop-i l = length l.trail - l.i
