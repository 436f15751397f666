-- outcomes, and the case at their positions
use Rattle.std.proofs.Common.{◌≡◌, ◌∙◌, List, length, nat_le, refl, ap, subst, take, OnOk, Result}
use Rattle.net_core.proofs.Library.{⊤}
use Rattle.plan_terms.specs.Terms.{Demand, Case}
use Rattle.plan_report.specs.Terms.{Outcome, Planned, Unsurvivable, Report}
use Rattle.plan_checker.{specs.Terms.{HoldsNone, TellFirst}, specs.declared.stop.Stop.Stop, proofs.Firsts.told_later}
use Rattle.plan_types.specs.Terms.{outcome_position}
use Rattle.report_checker.{specs.Outcomes.{HoldsVersionDiffers, IsAcceptedOutcome, case_at, outcome_findings}, specs.inner.Said.{IsSaid, findings_there, outcome_version, said_findings}, specs.inner.Walks.HasPassed, specs.declared.walk.Walk.Walk}

-- the findings are those there
pub all_there : (p : Case) (r : Report) (o : Outcome) → findings_there p r o ≡ outcome_findings p r o
all_there p r (Planned caller serial plan) = refl
all_there p r (Unsurvivable caller serial version position state demand) = refl

pub accepted : (p : Case) (r : Report) (o : Outcome) → IsSaid (case_at p r.entries (outcome_position o)) o → IsAcceptedOutcome p r o
accepted p r (Planned caller serial plan) said = said
accepted p r (Unsurvivable caller serial version position state demand) said = said

module _ (p : Case) (r : Report) (o : Outcome) (w : Walk) (passed : HasPassed p (take (outcome_position o) r.entries) w) (ds : List Demand) (is : ds ≡ w.book.demands) where
  abbrev own : Case
  own = record { nodes = p.nodes; links = p.links; listed = p.listed; demands = ds; places = p.places }

  -- the case with the walk's demands is the one at the position
  case_there : own ≡ case_at p r.entries (outcome_position o)
  case_there = ap (λ x. record { nodes = p.nodes; links = p.links; listed = p.listed; demands = x; places = p.places }) (is ∙ passed.demands)

  pub told_there : (t : Result ⊤ Stop) → HoldsNone (HoldsVersionDiffers p r.entries (outcome_version o) (outcome_position o)) → TellFirst (said_findings own (nat_le 4096 (length r.pool)) o) t → TellFirst (findings_there p r o) t
  told_there t none told =
      told_later (HoldsVersionDiffers p r.entries (outcome_version o) (outcome_position o)) (said_findings (case_at p r.entries (outcome_position o)) (nat_le 4096 (length r.pool)) o) t none
      (subst (λ c. TellFirst (said_findings c (nat_le 4096 (length r.pool)) o) t) case_there told)

  pub sound_there : (t : Result ⊤ Stop) → OnOk t (IsSaid own o) → OnOk t (IsSaid (case_at p r.entries (outcome_position o)) o)
  sound_there t said = subst (λ c. OnOk t (IsSaid c o)) case_there said
