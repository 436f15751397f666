use Rattle.std.proofs.Common.{◌≡◌, All, map, take}
use Rattle.tree_check.specs.Boxes.{IsFixedSpan}
use Rattle.tree_check.proofs.fixed_counts.only_counts.Given as goal

-- the spans so far
abbrev pub invariant-loop-s : goal.invariant-loop-s
invariant-loop-s l = All IsFixedSpan (take l.s-index l.spans) × (l.counts ≡ map (λ s. s.least) (take l.s-index l.spans))
