use Rattle.std.proofs.Common.{◌≡◌, ◌*◌, ◌^◌, ◌≤◌}
use Rattle.plan_terms.specs.Terms.{load, sum_below}
use Rattle.plan_view.proofs.summary.total_load.Given as goal

-- the load of the links so far
abbrev pub invariant-loop-e : goal.invariant-loop-e
invariant-loop-e l = (l.total ≡ sum_below l.e (load l.flows)) × (l.total ≤ l.e * 2 ^ 108)
