-- what a caller's next command does
use Rattle.std.specs.Prelude.{◌≡◌, ℕ, ◌+◌, ◌<◌, ◌++◌, List, [], ◌∷◌, All, IfOk, Some, length, slice_get, Result, Ok, Err}
use Rattle.plan_terms.specs.Terms.{Demand, Edit, Entry, Edited, Reply, NoMemory, Case, AreDemands, IsCut}
use Rattle.plan_types.specs.declared.report.Outcome.{Outcome}
use Rattle.planner.{specs.Terms.IsWorkedAlone, specs.declared.answer.PlanAnswer.PlanAnswer, specs.declared.answer.PlanAnswer.TheVariants.{Planned, NotSurvivable}}
use Rattle.cut_pool.{specs.declared.answers.EditAnswer.EditAnswer, specs.declared.snapshot.Snapshot.Snapshot, specs.Terms.{IsPoolAfter, demands_left, version_left, case_left}}
use Rattle.separation_workers.specs.Terms.{IsCutEntry, SeesMore}
use Rattle.session_script.{specs.declared.script.Act.Act, specs.declared.script.Act.TheVariants.{Change, Plan}, specs.declared.script.Command.Command}
use Rattle.turn_lock.specs.Terms.{IsPrefix, Seen}
use Rattle.board_desk.{specs.declared.caller.Caller.Caller, specs.Turns.caller_seen}
use Rattle.session_run.{specs.Transcripts.{IsOutcomeAfter, IsPlanned}, specs.inner.Running.IsFullAt, specs.declared.plans.Asked.Asked, specs.declared.setting.Stop.Stop}
use Rattle.plan_types.specs.declared.report.Outcome.TheVariants as outcomes
use Rattle.cut_pool.specs.declared.answers.EditAnswer.TheVariants as editing
use Rattle.session_run.specs.declared.setting.Stop.TheVariants as stops

-- ---- edits

-- whether the board took the edit, or why it didn't
abbrev pub IsDoneBy : EditAnswer → Result (Unit {0}) Stop → Type 0
IsDoneBy (editing.At position reply) done = done ≡ Ok tt
IsDoneBy (editing.Full back) done = done ≡ Err stops.Full
IsDoneBy (editing.NoMemory back) done = done ≡ Err stops.NoMemory

-- the caller has seen further entries, and has one more of its own, the edit; or it has stopped without one, `Full` only where the journal is
abbrev pub EndsEdit : ℕ → Edit → Seen Entry → Seen Entry → Result (Unit {0}) Stop → Type 0
EndsEdit caller edit old new (Ok u) =
    (waited : List Entry)
    × (reply : Reply)
    × (new.history ≡ (old.history ++ waited) ++ Edited caller edit reply ∷ [])
    × (new.own ≡ old.own ++ Edited caller edit reply ∷ [])
EndsEdit caller edit old new (Err stop) = (new.own ≡ old.own) × IsFullAt new.history stop

-- ---- plans

-- a separation names one of the demands that are handed back with it
abbrev pub NamesDemand : PlanAnswer → Type 0
NamesDemand (Planned plan) = Unit {0}
NamesDemand (NotSurvivable s demands) = s.demand < length demands

-- the outcome of a plan command with this answer, for a snapshot of this version and position
abbrev pub IsOutcomeFor : Asked → ℕ → ℕ → PlanAnswer → Outcome → Type 0
IsOutcomeFor asked version position (Planned plan) o = o ≡ outcomes.Planned asked.caller asked.serial plan
IsOutcomeFor asked version position (NotSurvivable s demands) o =
    (d : Demand) × (slice_get demands s.demand ≡ Some d) × (o ≡ outcomes.Unsurvivable asked.caller asked.serial version position s.state d.name)

-- a snapshot of all that was seen
pub record IsSnapshotHere (p : Case) (seen : List Entry) (snapshot : Snapshot) : Type 0 where
  pub position : snapshot.position ≡ length seen
  pub version : snapshot.version ≡ version_left p seen
  pub demands : snapshot.demands ≡ demands_left p seen
  pub belong : AreDemands (length p.nodes) snapshot.demands
  pub pool : ∥ IsPoolAfter p seen snapshot.cuts ∥₁
  pub cuts : ∥ All (IsCut (case_left p seen)) snapshot.cuts ∥₁

-- Planning for what was seen: it commits pooled cuts and nothing else, and the outcome is that of the history before them. Where that
-- history was empty, and the caller of a plan has written all of the history that there is now, this one is a worked pool.
pub record PlansAt (p : Case) (asked : Asked) (old new : Seen Entry) (made : Result Outcome NoMemory) : Type 0 where
  pub more : SeesMore old new
  pub outcome : IfOk made (IsOutcomeAfter p old.history new.history asked.caller asked.serial)
  pub alone : IfOk made (λ o. IsPlanned o → IsWorkedAlone p old new)

-- planning for a history that begins with all that was seen
abbrev pub PlansSince : Case → Asked → Seen Entry → Seen Entry → Result Outcome NoMemory → Type 0
PlansSince p asked old new made =
    (before : List Entry) × IsPrefix old.history before × PlansAt p asked (record { history = before; own = old.own }) new made

-- ---- commands

-- the outcome was added to the earlier ones, or there was no memory for it
abbrev pub KeepsOutcome : Outcome → List Outcome → List Outcome → Result (Unit {0}) Stop → Type 0
KeepsOutcome o before after (Ok u) = after ≡ before ++ o ∷ []
KeepsOutcome o before after (Err stop) = stop ≡ stops.NoMemory

-- how far a caller has come: what it has seen, and the outcomes of its plan commands
pub record Progress : Type 0 where
  pub seen : Seen Entry
  pub outcomes : List Outcome

-- a caller's progress, with these outcomes of its plan commands
abbrev pub progress_of : Caller → List Outcome → Progress
progress_of c outcomes = record { seen = caller_seen c; outcomes = outcomes }

-- the next act of a caller is done: an edit, or a plan, which gives one more outcome
abbrev pub HasActed : Case → ℕ → Act → Progress → Progress → Type 0
HasActed p caller (Change edit) old new = EndsEdit caller edit old.seen new.seen (Ok tt) × (new.outcomes ≡ old.outcomes)
HasActed p caller Plan old new =
    (o : Outcome)
    × (new.outcomes ≡ old.outcomes ++ o ∷ [])
    × PlansSince p (record { caller = caller; serial = length old.outcomes + 1 }) old.seen new.seen (Ok o)

-- the caller has stopped during an act, and has committed nothing but cuts
pub record HasStopped (old new : Seen Entry) (stop : Stop) : Type 0 where
  pub more : List Entry
  pub own_is : new.own ≡ old.own ++ more
  pub pooled : All IsCutEntry more
  pub full : IsFullAt new.history stop

-- what a caller's next command ends with
abbrev pub EndsAct : Case → Command → Progress → Progress → Result (Unit {0}) Stop → Type 0
EndsAct p c old new (Ok u) = HasActed p c.caller c.act old new
EndsAct p c old new (Err stop) = HasStopped old.seen new.seen stop
