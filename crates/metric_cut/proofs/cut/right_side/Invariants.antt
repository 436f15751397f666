use Rattle.std.proofs.Common.{◌≡◌, ◌≤◌, ◌*◌, ◌^◌, sum_by, take}
use Rattle.metric_cut.specs.inner.Rights.{part_of}
use Rattle.metric_cut.proofs.cut.right_side.Given as goal

-- the sum of the parts so far
abbrev pub invariant-loop-d : goal.invariant-loop-d
invariant-loop-d l = (l.sum ≡ sum_by (part_of l.table) (take l.d-index l.demands)) × (l.sum ≤ sum_by (λ d. d.need) (take l.d-index l.demands) * 2 ^ 39)
