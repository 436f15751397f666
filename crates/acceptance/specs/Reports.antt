-- which reports have no finding
use Rattle.std.specs.Prelude.{◌≡◌, ℕ, ◌≤◌, true, List, All, length, nat_le}
use Rattle.plan_terms.specs.Terms.{Notes, Case}
use Rattle.plan_types.{specs.Terms.{IsCarryingPlan, IsCertifiedPlan, IsCostedPlan}, specs.declared.certificate.Spot.TheVariants.Local, specs.declared.plan.Plan.Plan, specs.declared.quality.Fractional.Fractional, specs.declared.quality.Quality.TheVariants.Tight, specs.declared.report.Outcome.Outcome, specs.declared.report.Outcome.TheVariants.{Planned, Unsurvivable}, specs.declared.report.Report.Report}
use Rattle.cut_pool.specs.Terms.{IsLegalHistory, IsPoolAfter, demands_at, version_at}
use Rattle.plan_checker.specs.Terms.{IsTight}
use Rattle.report_checker.specs.Terms.{SeparatesNamed, case_at, HasNoFinding}

-- A plan for the demands at its position, with their version. It carries them, and its cost and certificate are right; it has cuts outside the pool only
-- where the pool is full, and is tight where it claims so.
pub record IsSoundPlanOf (p : Case) (r : Report) (plan : Plan) : Type 0 where
  pub position : plan.position ≤ length r.entries
  pub version : plan.version ≡ version_at p r.entries plan.position
  pub demands : plan.demands ≡ demands_at p r.entries plan.position
  pub carrying : IsCarryingPlan (case_at p r.entries plan.position) plan
  pub costed : IsCostedPlan (case_at p r.entries plan.position) plan
  pub certified : IsCertifiedPlan (case_at p r.entries plan.position) plan
  pub pooled : All (λ l. l.spot ≡ Local → nat_le 4096 (length r.pool) ≡ true) plan.certificate.lines
  pub tight : (f : Fractional) → plan.quality ≡ Tight f → IsTight (case_at p r.entries plan.position) plan f

-- a position of the journal with its version, at which the state separates a demand of this name
pub record IsSoundRefusalOf (p : Case) (r : Report) (version position state : ℕ) (demand : List ℕ) : Type 0 where
  pub within : position ≤ length r.entries
  pub version_there : version ≡ version_at p r.entries position
  pub separates : SeparatesNamed (case_at p r.entries position) state demand

-- a sound plan, or a sound refusal
abbrev pub IsSoundOutcomeOf : Case → Report → Outcome → Type 0
IsSoundOutcomeOf p r (Planned caller serial plan) = IsSoundPlanOf p r plan
IsSoundOutcomeOf p r (Unsurvivable caller serial version position state demand) = IsSoundRefusalOf p r version position state.0 demand

-- a report with the network's notes, a legal journal, the pool that the journal leaves, and sound outcomes has no finding
abbrev pub SoundReportsAreAccepted : Type 0
SoundReportsAreAccepted = (notes : Notes) (p : Case) (r : Report)
    → r.notes ≡ notes
    → IsLegalHistory p r.entries
    → IsPoolAfter p r.entries r.pool
    → All (IsSoundOutcomeOf p r) r.outcomes
    → HasNoFinding notes p r
