-- outcomes that are checked along a walk through the journal
use Rattle.std.specs.Prelude.{◌≡◌, ℕ, ◌<◌, ◌≤◌, Option, None, Some, length, min, slice_get}
use Rattle.plan_terms.specs.Terms.{Case}
use Rattle.plan_report.specs.Terms.{Outcome, Report}
use Rattle.plan_checker.{specs.Terms.{HoldNone, IsFirstFinding, HoldsAt}, specs.declared.finding.Finding.Finding}
use Rattle.plan_types.specs.Terms.{outcome_position}
use Rattle.report_checker.{specs.Outcomes.{IsAcceptedOutcome, outcome_findings}, specs.declared.outcomes_along.Checked.Checked}

-- the number of entries before an outcome, which are all where its position is past the journal
abbrev pub outcome_place : Report → Outcome → ℕ
outcome_place r o = min (outcome_position o) (length r.entries)

-- no finding holds on the outcome, and it is as an accepted one is known to be
abbrev pub IsSoundOutcome : Case → Report → Outcome → Type 0
IsSoundOutcome p r o = HoldNone (outcome_findings p r o) × IsAcceptedOutcome p r o

-- each of the first outcomes is sound, as far as they are of places before this one
abbrev pub AreSoundBefore : Case → Report → ℕ → ℕ → Type 0
AreSoundBefore p r place many = (i : ℕ) (o : Outcome) → i < many → slice_get r.outcomes i ≡ Some o → outcome_place r o < place → IsSoundOutcome p r o

-- these are all outcomes, or the next one has this finding first
abbrev pub IsFirstAfterClean : Case → Report → ℕ → Option Finding → Type 0
IsFirstAfterClean p r clean None = length r.outcomes ≤ clean
IsFirstAfterClean p r clean (Some f) = HoldsAt r.outcomes clean (λ o. IsFirstFinding (outcome_findings p r o) f)

-- what is told of the outcomes by checks of those that are of places before this one
pub record AreChecked (p : Case) (r : Report) (place : ℕ) (c : Checked) : Type 0 where
  pub inside : c.clean ≤ length r.outcomes
  pub clean : AreSoundBefore p r place c.clean
  pub first : IsFirstAfterClean p r c.clean c.finding
