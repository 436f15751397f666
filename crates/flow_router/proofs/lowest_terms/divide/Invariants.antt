use Rattle.flow_router.proofs.Dividing.{AreDividedFlows}
use Rattle.flow_router.proofs.lowest_terms.divide.Given as goal

-- the flows so far are divided
abbrev pub invariant-loop-i : goal.invariant-loop-i
invariant-loop-i l = AreDividedFlows l.common l.i l.initial.flows l.flows
