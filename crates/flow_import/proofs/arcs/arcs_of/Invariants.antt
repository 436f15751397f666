use Rattle.std.proofs.Common.{◌≡◌, take}
use Rattle.flow_import.specs.Imports.{demand_arcs}
use Rattle.flow_import.proofs.arcs.arcs_of.Given as goal

abbrev pub invariant-loop-flow : goal.invariant-loop-flow
invariant-loop-flow l = l.arcs ≡ demand_arcs l.demand (take l.flow-index l.flows)
