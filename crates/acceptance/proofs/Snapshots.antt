-- a plan of a snapshot has no finding where the pool counts as full
use Rattle.std.proofs.Common.{◌≡◌, ◌∙◌, List, refl, subst, true}
use Rattle.net_core.proofs.Library.{∥∥₁_elim}
use Rattle.plan_terms.specs.Terms.{Entry, Case}
use Rattle.plan_types.{specs.declared.plan.Plan.Plan, specs.declared.quality.Fractional.Fractional, specs.declared.quality.Quality.Quality, specs.declared.quality.Quality.TheVariants.Tight}
use Rattle.cut_pool.specs.declared.snapshot.Snapshot.{Snapshot}
use Rattle.plan_law.specs.LoosePlans.{HasQuality}
use Rattle.session_run.specs.Terms.{IsSnapshotPlan}
use Rattle.plan_checker.specs.Terms.{HoldNone, plan_findings, IsTight}
use Rattle.acceptance.{specs.Laws.SnapshotPlansAreAccepted, proofs.Shares.tight_by_share, proofs.Sound.{none_prop, sound_plans_are_accepted}}

-- it is tight where it claims so
pub tight_where_claimed : (p : Case) (snapshot : Snapshot) (history : List Entry) (plan : Plan) → IsSnapshotPlan p snapshot history plan → (f : Fractional) → plan.quality ≡ Tight f → IsTight p plan f
tight_where_claimed p snapshot history plan is f claims =
    let worked = is.worked in
    tight_by_share p worked.pairs plan f (subst (λ (q : Quality). HasQuality p worked.pairs snapshot.cuts plan worked.rounds is.cuts q) claims worked.quality)

pub snapshot_plan_accepted : (p : Case) (snapshot : Snapshot) (history : List Entry) (plan : Plan) → snapshot.demands ≡ p.demands → IsSnapshotPlan p snapshot history plan → HoldNone (plan_findings p true plan)
snapshot_plan_accepted p snapshot history plan same is =
    sound_plans_are_accepted p true plan (is.same_demands ∙ same) is.carrying is.costed is.certified (λ k d lt apart. refl) (tight_where_claimed p snapshot history plan is)

pub snapshot_plans_are_accepted : SnapshotPlansAreAccepted
snapshot_plans_are_accepted p snapshot history plan same is =
    ∥∥₁_elim is (none_prop (plan_findings p true plan)) (snapshot_plan_accepted p snapshot history plan same)
