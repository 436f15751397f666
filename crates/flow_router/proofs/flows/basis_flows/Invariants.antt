use Rattle.flow_router.specs.inner.Flowing.{AreBasisFlows}
use Rattle.flow_router.proofs.flows.basis_flows.Given as goal

-- the flows of the columns so far
abbrev pub invariant-loop-j : goal.invariant-loop-j
invariant-loop-j l = AreBasisFlows l.basis l.values l.j l.flows
