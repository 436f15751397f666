use Rattle.std.proofs.Common.{◌≡◌, take}
use Rattle.tree_check.specs.Boxes.{IsFixedBox, least_counts}
use Rattle.tree_check.proofs.fixed_counts.fixed_counts.Given as goal

-- the links so far
abbrev pub invariant-loop-spans : goal.invariant-loop-spans
invariant-loop-spans l = IsFixedBox (take l.spans-index l.boxed) × (l.counts ≡ least_counts (take l.spans-index l.boxed))
