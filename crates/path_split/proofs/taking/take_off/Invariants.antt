use Rattle.std.proofs.Common.{◌≡◌, drop}
use Rattle.path_split.specs.inner.Trails.{AreEnough, less}
use Rattle.path_split.proofs.taking.take_off.Given as goal

-- what is still to be taken off
abbrev pub invariant-loop-k : goal.invariant-loop-k
invariant-loop-k l = record {
  enough : AreEnough l.lefts (drop l.k-index l.trail) l.num;
  same : less l.lefts (drop l.k-index l.trail) l.num ≡ less l.fn.lefts l.trail l.num;
}
