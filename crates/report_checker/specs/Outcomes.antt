-- findings on an outcome of a report
use Rattle.std.specs.Prelude.{◌≡◌, ◌≢◌, ℕ, ◌<◌, ◌≤◌, ◌⊎◌, List, [], ◌∷◌, length, nat_le, take}
use Rattle.plan_terms.specs.Terms.{Entry, Case, IsAble, total_cost, Separates}
use Rattle.plan_report.specs.Terms.{Outcome, Planned, Unsurvivable, Report}
use Rattle.cut_pool.specs.Terms.{version_at, case_left}
use Rattle.plan_checker.{specs.Terms.{Kind, IsAcceptedPlan, plan_findings}, specs.declared.finding.Finding.Finding, specs.declared.finding.Finding.TheVariants.{Survivable, VersionDiffers}}

-- the case with the demands at a position of the journal
abbrev pub case_at : Case → List Entry → ℕ → Case
case_at p entries position = case_left p (take position entries)

-- the version isn't the number of edits that were accepted up to the position, or the position is past the journal
abbrev pub HoldsVersionDiffers : Case → List Entry → ℕ → ℕ → Finding → Type 0
HoldsVersionDiffers p entries version position (VersionDiffers a b) =
    (version ≡ a) × (version_at p entries position ≡ b) × ((a ≢ b) ⊎ (length entries < position))
HoldsVersionDiffers p entries version position _ = ⊥

-- the state separates a demand of this name
pub record SeparatesNamed (p : Case) (state : ℕ) (name : List ℕ) : Type 0 where
  pub place : ℕ
  pub separates : Separates p state place
  pub named : separates.demand.name ≡ name

-- the state separates no demand of this name
abbrev pub HoldsSurvivable : Case → ℕ → List ℕ → Finding → Type 0
HoldsSurvivable p state name Survivable = SeparatesNamed p state name → ⊥
HoldsSurvivable p state name _ = ⊥

-- the kinds of findings on an outcome, in their order
abbrev pub outcome_findings : Case → Report → Outcome → List Kind
outcome_findings p r (Planned caller serial plan) =
    HoldsVersionDiffers p r.entries plan.version plan.position
    ∷ plan_findings (case_at p r.entries plan.position) (nat_le 4096 (length r.pool)) plan
outcome_findings p r (Unsurvivable caller serial version position state demand) =
    HoldsVersionDiffers p r.entries version position
    ∷ HoldsSurvivable (case_at p r.entries position) state.0 demand
    ∷ []

-- what an accepted outcome is known to be: a plan carries the demands at its position in each state, its cost is its own, and its bound is certified
abbrev pub IsAcceptedOutcome : Case → Report → Outcome → Type 0
IsAcceptedOutcome p r (Planned caller serial plan) = IsAcceptedPlan (case_at p r.entries plan.position) plan
IsAcceptedOutcome p r (Unsurvivable caller serial version position state demand) = SeparatesNamed (case_at p r.entries position) state.0 demand

-- no counts that can carry the demands at the plan's position cost less than its bound
abbrev pub IsBelowAllAble : Case → Report → Outcome → Type 0
IsBelowAllAble p r (Planned caller serial plan) =
    (counts : List (List ℕ)) → IsAble (case_at p r.entries plan.position) counts → plan.bound ≤ total_cost p.links counts
IsBelowAllAble p r (Unsurvivable caller serial version position state demand) = Unit {0}
