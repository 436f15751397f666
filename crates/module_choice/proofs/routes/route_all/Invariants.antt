use Rattle.plan_terms.specs.Terms.{Joins, graph_of}
use Rattle.module_choice.specs.inner.Routes.{AreLeastFlows}
use Rattle.module_choice.proofs.routes.route_all.Given as goal

-- the demands so far have their flows
abbrev pub invariant-loop-k : goal.invariant-loop-k
invariant-loop-k l = AreLeastFlows (Joins (graph_of l.paths.graph)) l.paths.lengths l.demands l.k l.flows
