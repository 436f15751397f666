-- which plans have no finding
use Rattle.std.specs.Prelude.{◌≡◌, Bool, true, List, All}
use Rattle.plan_terms.specs.Terms.{Entry, Case}
use Rattle.plan_types.{specs.Terms.{IsCarryingPlan, IsCertifiedPlan, IsCostedPlan}, specs.declared.certificate.Spot.TheVariants.Local, specs.declared.plan.Plan.Plan, specs.declared.quality.Fractional.Fractional, specs.declared.quality.Quality.TheVariants.Tight}
use Rattle.cut_pool.specs.declared.snapshot.Snapshot.{Snapshot}
use Rattle.session_run.specs.Terms.{IsSnapshotPlan}
use Rattle.plan_checker.specs.Terms.{HoldNone, plan_findings, IsTight}

-- A plan for the demands of the case has no finding where it carries them, its cost and certificate are right, it has cuts outside the pool only where the
-- pool is full, and it is tight where it claims so.
abbrev pub SoundPlansAreAccepted : Type 0
SoundPlansAreAccepted = (p : Case) (full : Bool) (plan : Plan)
    → plan.demands ≡ p.demands
    → IsCarryingPlan p plan
    → IsCostedPlan p plan
    → IsCertifiedPlan p plan
    → All (λ l. l.spot ≡ Local → full ≡ true) plan.certificate.lines
    → ((f : Fractional) → plan.quality ≡ Tight f → IsTight p plan f)
    → HoldNone (plan_findings p full plan)

-- A plan of a snapshot has no finding for the snapshot's demands where the pool counts as full, wherever the cuts of its certificate are.
abbrev pub SnapshotPlansAreAccepted : Type 0
SnapshotPlansAreAccepted = (p : Case) (snapshot : Snapshot) (history : List Entry) (plan : Plan)
    → snapshot.demands ≡ p.demands
    → ∥ IsSnapshotPlan p snapshot history plan ∥₁
    → HoldNone (plan_findings p true plan)
