use Rattle.std.proofs.Common.{◌≡◌, take}
use Rattle.path_split.specs.inner.Legs.{nums}
use Rattle.path_split.proofs.star.lefts_of.Given as goal

abbrev pub invariant-loop-leg : goal.invariant-loop-leg
invariant-loop-leg l = l.lefts.items ≡ nums (take l.leg-index l.legs)
