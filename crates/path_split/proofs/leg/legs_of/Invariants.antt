use Rattle.std.proofs.Common.{◌≡◌, map, take}
use Rattle.path_split.specs.inner.Legs.{leg_of}
use Rattle.path_split.proofs.leg.legs_of.Given as goal

abbrev pub invariant-loop-arc : goal.invariant-loop-arc
invariant-loop-arc l = l.legs.items ≡ map (leg_of l.links) (take l.arc-index l.arcs)
