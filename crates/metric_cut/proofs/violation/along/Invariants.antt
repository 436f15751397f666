use Rattle.std.proofs.Common.{◌≡◌, ◌≤◌, ◌*◌, ◌^◌, sum_by, take, zip}
use Rattle.metric_cut.proofs.violation.along.Given as goal

-- the sum over the links so far
abbrev pub invariant-loop-e : goal.invariant-loop-e
invariant-loop-e l = (l.sum ≡ sum_by (λ p. p.0 * p.1) (zip (take l.e l.lengths) (take l.e l.nums))) × (l.sum ≤ l.e * 2 ^ 94)
