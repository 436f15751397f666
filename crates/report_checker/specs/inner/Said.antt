-- what an outcome says of the demands at its position
use Rattle.std.specs.Prelude.{◌≡◌, ℕ, Bool, List, [], ◌∷◌, length, nat_le}
use Rattle.plan_terms.specs.Terms.{Case, Separates}
use Rattle.plan_types.specs.Terms.{outcome_position}
use Rattle.plan_report.specs.Terms.{Outcome, Planned, Unsurvivable, Report}
use Rattle.plan_checker.specs.Terms.{Kind, IsAcceptedPlan, plan_findings}
use Rattle.report_checker.specs.Outcomes.{HoldsSurvivable, HoldsVersionDiffers, SeparatesNamed, case_at}

-- demand k has the name, and the state separates it
abbrev pub IsSaidSeparation : Case → ℕ → List ℕ → ℕ → Type 0
IsSaidSeparation p state name k = (s : Separates p state k) × (s.demand.name ≡ name)

-- the version of an outcome
abbrev pub outcome_version : Outcome → ℕ
outcome_version (Planned caller serial plan) = plan.version
outcome_version (Unsurvivable caller serial version position state demand) = version

-- the findings on it, beside that on its version
abbrev pub said_findings : Case → Bool → Outcome → List Kind
said_findings p full (Planned caller serial plan) = plan_findings p full plan
said_findings p full (Unsurvivable caller serial version position state demand) = HoldsSurvivable p state.0 demand ∷ []

-- what is known of it where none of them holds
abbrev pub IsSaid : Case → Outcome → Type 0
IsSaid p (Planned caller serial plan) = IsAcceptedPlan p plan
IsSaid p (Unsurvivable caller serial version position state demand) = SeparatesNamed p state.0 demand

-- all findings on an outcome
abbrev pub findings_there : Case → Report → Outcome → List Kind
findings_there p r o =
    HoldsVersionDiffers p r.entries (outcome_version o) (outcome_position o)
    ∷ said_findings (case_at p r.entries (outcome_position o)) (nat_le 4096 (length r.pool)) o
