use Rattle.std.proofs.Common.{◌≡◌, take}
use Rattle.path_split.specs.inner.Trails.{trail_links}
use Rattle.path_split.proofs.taking.trail_links.Given as goal

abbrev pub invariant-loop-k : goal.invariant-loop-k
invariant-loop-k l = l.path ≡ trail_links l.legs (take l.k-index l.trail)
