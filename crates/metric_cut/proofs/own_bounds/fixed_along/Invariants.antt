use Rattle.std.proofs.Common.{◌≡◌, ◌≤◌, ◌*◌, ◌^◌, take}
use Rattle.plan_terms.specs.Terms.{fixed_along}
use Rattle.metric_cut.proofs.own_bounds.fixed_along.Given as goal

-- the sum over the links so far
abbrev pub invariant-loop-e : goal.invariant-loop-e
invariant-loop-e l = (l.sum ≡ fixed_along (take l.e l.lengths) (take l.e l.links)) × (l.sum ≤ l.e * 2 ^ 72)
