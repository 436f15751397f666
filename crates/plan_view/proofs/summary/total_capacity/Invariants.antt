use Rattle.std.proofs.Common.{◌≡◌, ◌*◌, ◌^◌, ◌≤◌, take, sum_by}
use Rattle.plan_view.proofs.summary.total_capacity.Given as goal

-- the capacity of the links so far
abbrev pub invariant-loop-n : goal.invariant-loop-n
invariant-loop-n l = (l.total ≡ sum_by (λ n. n) (take l.n-index l.capacities)) × (l.total ≤ l.n-index * 2 ^ 46)
