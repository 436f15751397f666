use Rattle.std.proofs.Common.{◌≡◌, ◌++◌, take}
use Rattle.flow_import.specs.inner.Steps.{flows_along}
use Rattle.flow_import.proofs.arcs.add_paths.Given as goal

abbrev pub invariant-loop-flow : goal.invariant-loop-flow
invariant-loop-flow l = l.routed ≡ l.fn.routed ++ flows_along l.demand (take l.flow-index l.split)
