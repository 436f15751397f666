use Rattle.view_svg.specs.Changes.{AreRoundedLoads}
use Rattle.view_svg.proofs.changes.rounded_loads.Given as goal

-- the loads of the links so far
abbrev pub invariant-loop-e : goal.invariant-loop-e
invariant-loop-e l = AreRoundedLoads l.flows l.den l.e l.amounts
