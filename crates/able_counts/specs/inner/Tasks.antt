-- routing tasks as states of a case
use Rattle.plan_terms.specs.Terms.{Case, case, RouteTask}

-- the case of a task's network, states and demands
abbrev pub task_case : RouteTask → Case
task_case t = case t.graph.net.now t.graph.states.now t.demands.now
