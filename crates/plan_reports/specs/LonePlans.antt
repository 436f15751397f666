-- the result of one plan command
use Rattle.std.specs.Prelude.{ℕ, ◌<◌, ◌^◌, List, [], ◌∷◌}
use Rattle.plan_terms.specs.Terms.{Notes, Routing, Case, AreCounts, AreWithinLimits}
use Rattle.plan_types.specs.Terms.{IsCarryingPlan, IsCostedPlan}
use Rattle.plan_report.specs.Terms.{AreRoutingsInForm, known_to, Plan, Report}
use Rattle.session_script.specs.declared.script.Command.{Command}
use Rattle.acceptance.specs.Terms.{IsSeparationOf, IsTranscript}
use Rattle.plan_reports.{specs.declared.lone.LonePlan.LonePlan, specs.declared.lone.LonePlan.TheVariants.{Planned, Separated}, specs.declared.planned_report.PlannedReport.PlannedReport}
use Rattle.plan_types.specs.declared.report.Outcome.TheVariants as outcome
use Rattle.session_script.specs.declared.script.Act.TheVariants as act

-- the script of a plan: one plan command, of caller 1
abbrev pub plan_commands : List Command
plan_commands = record { caller = 1; act = act.Plan } ∷ []

-- the report with the plan as its one outcome
abbrev pub whole_report : PlannedReport → Report
whole_report r = record { notes = r.notes; entries = r.entries; pool = r.pool; outcomes = outcome.Planned 1 1 r.plan ∷ [] }

-- a plan, whose report is a transcript of one plan command, or the first separation
abbrev pub IsLoneAnswer : Case → Notes → LonePlan → Type 0
IsLoneAnswer p notes (Planned r) = IsTranscript p notes plan_commands (whole_report r)
IsLoneAnswer p notes (Separated state demand) = IsSeparationOf p state.0 demand

-- ---- other designs

-- the plan with other counts, another cost and other routings, and otherwise as it is
abbrev pub redesigned_plan : Plan → List (List ℕ) → ℕ → List Routing → Plan
redesigned_plan plan counts cost routings = record plan { counts = counts; cost = cost; routings = routings }

-- the report with that plan in the place of its own
abbrev pub redesigned : PlannedReport → List (List ℕ) → ℕ → List Routing → PlannedReport
redesigned r counts cost routings = record r { plan = redesigned_plan r.plan counts cost routings }

-- the plan's design is sound: its counts and routings are in form, the routings carry the demands in each state, and the cost is that of the counts
pub record IsSoundDesign (p : Case) (plan : Plan) : Type 0 where
  pub shape : AreCounts p.links plan.counts
  pub limits : AreWithinLimits p.links plan.counts
  pub low : plan.cost < 2 ^ 126
  pub form : AreRoutingsInForm (known_to p) p.demands plan.routings
  pub carrying : IsCarryingPlan p plan
  pub costed : IsCostedPlan p plan
