-- what is found by tests of outcomes
use Rattle.std.specs.Prelude.{ℕ, zero, suc, ◌<◌, All}
use Rattle.plan_terms.specs.Terms.{Case}
use Rattle.plan_types.specs.declared.report.Report.{Report}
use Rattle.plan_checker.{specs.Terms.{HoldNone, IsFirstFinding, HoldsAt}, specs.declared.finding.CheckAnswer.CheckAnswer, specs.declared.finding.CheckAnswer.TheVariants.{Accepted, NoMemory, Rejected}, specs.declared.finding.Finding.Finding, specs.declared.stop.Stop.Stop}
use Rattle.report_checker.specs.Outcomes.{outcome_findings}
use Rattle.plan_checker.specs.declared.stop.Stop.TheVariants as stops

-- the answer of a reason to stop on the whole report
abbrev pub answer_to : Stop → CheckAnswer
answer_to (stops.Found finding) = Rejected 0 finding
answer_to stops.NoMemory = NoMemory

-- the first finding on outcome j, from 1, where those before it have none
abbrev pub IsFirstOfOutcomes : Case → Report → ℕ → Finding → Type 0
IsFirstOfOutcomes p r zero f = ⊥
IsFirstOfOutcomes p r (suc j) f =
    ((i : ℕ) → i < j → HoldsAt r.outcomes i (λ o. HoldNone (outcome_findings p r o)))
    × HoldsAt r.outcomes j (λ o. IsFirstFinding (outcome_findings p r o) f)

-- no outcome has a finding, or this is the first one
abbrev pub TellOutcomes : Case → Report → CheckAnswer → Type 0
TellOutcomes p r Accepted = All (λ o. HoldNone (outcome_findings p r o)) r.outcomes
TellOutcomes p r (Rejected outcome finding) = IsFirstOfOutcomes p r outcome finding
TellOutcomes p r NoMemory = Unit {0}
