-- plans of a snapshot, which are made from a worked list of its cuts
use Rattle.std.specs.Prelude.{◌≡◌, ◌≤◌, ◌⊎◌, List, All, Contains, length, map, take}
use Rattle.plan_terms.specs.Terms.{Entry, CutLine, Case, IsCut, IsFirstSeparation}
use Rattle.plan_types.specs.Terms.{IsCarryingPlan, IsCertifiedPlan, IsCostedPlan}
use Rattle.plan_report.specs.Terms.{known_to, IsPlanInForm, Plan}
use Rattle.cut_pool.{specs.Terms.{cut_of_line, cuts_of}, specs.declared.snapshot.Snapshot.Snapshot}
use Rattle.plan_law.specs.LoosePlans.{IsWorkedPlan}
use Rattle.turn_lock.specs.Passes.{Seen}
use Rattle.plan_rounds.specs.Terms.{IsFullHistory, IsSpotIn, IsWorkedAlone}
use Rattle.planner.{specs.SoundPlans.{IsAboveOwnBounds, IsBelowFallback, IsLowestPlan}, specs.declared.answer.PlanAnswer.PlanAnswer, specs.declared.answer.PlanAnswer.TheVariants.{Planned, NotSurvivable}}

-- a snapshot of the first entries of a history: its cuts are those that they pool, in their order, with right sides at its demands
pub record IsSnapshotIn (p : Case) (history : List Entry) (snapshot : Snapshot) : Type 0 where
  pub version : snapshot.version ≤ snapshot.position
  pub position : snapshot.position ≤ length history
  pub pooled : map cut_of_line snapshot.cuts ≡ cuts_of (take snapshot.position history)
  pub cuts : All (IsCut p) snapshot.cuts

-- each of the cuts is in the history, or the history has no room for a further cut
abbrev pub AreHeld : List Entry → List CutLine → Type 0
AreHeld history cuts = All (λ c. Contains (cuts_of history) (cut_of_line c)) cuts ⊎ IsFullHistory history

-- The plan is sound for a snapshot, made when the history is this one. It is of the snapshot's version, position and demands; it carries
-- the demands in each state; its cost and its certificate are right; its bound is at least the own bound of each cut of the snapshot and of
-- each opening cut, and its cost at most that of the fallback plan; it is in form and in lowest terms. It comes of one worked list of the
-- snapshot, whose cuts are in the history, and it is tight, or loose by that list.
pub record IsSnapshotPlan (p : Case) (snapshot : Snapshot) (history : List Entry) (plan : Plan) : Type 0 where
  pub same_version : plan.version ≡ snapshot.version
  pub same_position : plan.position ≡ snapshot.position
  pub same_demands : plan.demands ≡ snapshot.demands
  pub carrying : IsCarryingPlan p plan
  pub costed : IsCostedPlan p plan
  pub certified : IsCertifiedPlan p plan
  pub above : IsAboveOwnBounds p (map cut_of_line snapshot.cuts) plan.bound
  pub below : IsBelowFallback p plan.cost
  pub form : IsPlanInForm (known_to p) plan
  pub lowest : IsLowestPlan plan
  pub spots : All (λ l. IsSpotIn history (cut_of_line l.cut) l.spot) plan.certificate.lines
  pub cuts : List CutLine
  pub worked : IsWorkedPlan p snapshot.cuts cuts plan
  pub held : AreHeld history cuts

-- a sound plan of the snapshot; or the first separation of its demands, with no entry added and the demands handed back
abbrev pub IsSnapshotAnswer : Case → Snapshot → List Entry → List Entry → PlanAnswer → Type 0
IsSnapshotAnswer p snapshot before after (Planned plan) = ∥ IsSnapshotPlan p snapshot after plan ∥₁
IsSnapshotAnswer p snapshot before after (NotSurvivable s demands) = IsFirstSeparation p s.state.0 s.demand × (after ≡ before) × (demands ≡ snapshot.demands)

-- where a plan is made over a history that was empty, and that the separator alone has written, the pool is a worked list in its order
abbrev pub PoolsAlone : Case → (old new : Seen Entry) → PlanAnswer → Type 0
PoolsAlone p old new (Planned plan) = IsWorkedAlone p old new
PoolsAlone p old new (NotSurvivable s demands) = Unit {0}
