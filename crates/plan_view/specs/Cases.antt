-- the case of a plan, and plans that are sound for demands of their own
use Rattle.std.specs.Prelude.{ℕ, length}
use Rattle.plan_terms.specs.Terms.{AreDemands, Case, Problem, case}
use Rattle.plan_report.specs.Terms.{Outcome, Plan, Planned, Unsurvivable}
use Rattle.plan_view.specs.Sound.{IsSoundPlan}

-- the case of a value of the program
abbrev pub problem_case : Problem → Case
problem_case problem = case problem.net problem.states problem.demands

-- the case with the demands of a plan
abbrev pub case_of_plan : Case → Plan → Case
case_of_plan p plan = record { nodes = p.nodes; links = p.links; listed = p.listed; demands = plan.demands; places = p.places }

-- a plan is sound for demands of its own, which belong to the network
abbrev pub HasSoundPlan : Case → Outcome → Type 0
HasSoundPlan p (Planned caller serial plan) = AreDemands (length p.nodes) plan.demands × IsSoundPlan (case_of_plan p plan) plan
HasSoundPlan p (Unsurvivable caller serial version position state demand) = Unit {0}
