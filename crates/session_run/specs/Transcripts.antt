-- transcripts of scripts: what the report of a session has to be
use Rattle.std.specs.Prelude.{◌≡◌, ℕ, ◌+◌, ◌≤◌, ◌==◌, List, [], ◌∷◌, All, AllPairs, Some, filter, flat_map, if◌then◌else◌, length, slice_get, take}
use Rattle.plan_terms.specs.Terms.{Edit, Entry, Edited, Pooled, Reply, Notes, Case, IsFirstSeparation}
use Rattle.plan_types.specs.Terms.{outcome_position}
use Rattle.plan_report.specs.Terms.{known_to, IsReportInForm, Plan, Outcome, Planned, Unsurvivable, Report}
use Rattle.cut_pool.{specs.declared.snapshot.Snapshot.Snapshot, specs.Terms.{IsLegalHistory, IsPoolAfter, demands_left, version_left, case_left}}
use Rattle.session_script.{specs.declared.script.Act.Act, specs.declared.script.Command.Command}
use Rattle.planner.{specs.Terms.IsWorkedPool, specs.SnapshotPlans.IsSnapshotPlan}
use Rattle.session_script.specs.declared.script.Act.TheVariants as acts

-- ---- what a caller asks for, and what it gets

-- what a caller asks for, in the order of its commands
abbrev pub acts_of : ℕ → List Command → List Act
acts_of caller commands = flat_map (λ c. if c.caller == caller then c.act ∷ [] else []) commands

-- the edit that an act asks for, if it is one
abbrev pub edit_asked : Act → List Edit
edit_asked (acts.Change edit) = edit ∷ []
edit_asked acts.Plan = []

-- the edit of an entry, if it is one of this caller
abbrev pub edit_made : ℕ → Entry → List Edit
edit_made caller (Edited by edit reply) = if by == caller then edit ∷ [] else []
edit_made caller (Pooled index state lengths) = []

-- the caller of an outcome
abbrev pub outcome_caller : Outcome → ℕ
outcome_caller (Planned caller serial plan) = caller
outcome_caller (Unsurvivable caller serial version position state demand) = caller

-- the outcomes of a caller, in their order
abbrev pub outcomes_of : ℕ → List Outcome → List Outcome
outcomes_of caller outcomes = filter (λ o. outcome_caller o == caller) outcomes

-- an outcome with a plan
abbrev pub IsPlanned : Outcome → Type 0
IsPlanned (Planned caller serial plan) = Unit {0}
IsPlanned (Unsurvivable caller serial version position state demand) = ⊥

-- one plan command and nothing else
pub record IsOnePlan (commands : List Command) : Type 0 where
  pub command : Command
  pub alone : commands ≡ command ∷ []
  pub plans : command.act ≡ acts.Plan

-- ---- outcomes at their places

-- a sound plan of the snapshot of the entries `before`, made by the time that the entries are `after`: the snapshot has their number, and
-- the version, the demands and the pool that they leave
pub record IsPlanBetween (p : Case) (before after : List Entry) (plan : Plan) : Type 0 where
  pub snapshot : Snapshot
  pub position : snapshot.position ≡ length before
  pub version : snapshot.version ≡ version_left p before
  pub demands : snapshot.demands ≡ demands_left p before
  pub pool : IsPoolAfter p before snapshot.cuts
  pub sound : IsSnapshotPlan (case_left p before) snapshot after plan

-- the first state that separates a demand which has a need, and the name of the first such demand
pub record IsSeparationOf (p : Case) (state : ℕ) (name : List ℕ) : Type 0 where
  pub place : ℕ
  pub first : IsFirstSeparation p state place
  pub named : first.separates.demand.name ≡ name

-- The outcome is that of the caller's plan command of this serial: a sound plan of what the entries `before` leave, whose cuts are in the
-- entries `after`, which begin with those, unless there is no room; or the first separation of the demands that `before` leaves.
abbrev pub IsOutcomeAfter : Case → List Entry → List Entry → ℕ → ℕ → Outcome → Type 0
IsOutcomeAfter p before after caller serial (Planned by number plan) =
    (by ≡ caller) × (number ≡ serial) × ∥ IsPlanBetween p before after plan ∥₁
IsOutcomeAfter p before after caller serial (Unsurvivable by number version position state demand) =
    (by ≡ caller) × (number ≡ serial) × (version ≡ version_left p before) × (position ≡ length before) × IsSeparationOf (case_left p before) state.0 demand

-- A caller's acts one after another, none before position `at`. Each edit is in the journal. Each plan command has the next outcome, at a
-- position between the caller's earlier and later commands and after the cuts that its earlier plans name. There are n entries before an
-- act, and m when a plan is made.
abbrev pub RunsFrom : Case → List Entry → ℕ → ℕ → ℕ → List Act → List Outcome → Type 0
RunsFrom p entries caller at serial [] [] = at ≤ length entries
RunsFrom p entries caller at serial [] (o ∷ os) = ⊥
RunsFrom p entries caller at serial (acts.Change edit ∷ rest) os =
    (n : ℕ) × (reply : Reply) × (at ≤ n) × (slice_get entries n ≡ Some (Edited caller edit reply)) × RunsFrom p entries caller (n + 1) serial rest os
RunsFrom p entries caller at serial (acts.Plan ∷ rest) [] = ⊥
RunsFrom p entries caller at serial (acts.Plan ∷ rest) (o ∷ os) =
    (n : ℕ) × (m : ℕ) × (at ≤ n) × (n ≤ m) × (m ≤ length entries)
    × IsOutcomeAfter p (take n entries) (take m entries) caller serial o × RunsFrom p entries caller m (serial + 1) rest os

-- ---- the report

-- The report is a transcript of the commands, from the opening demands of the case. It has a legal journal, in which each caller's edits
-- occur once each, in its order, and nothing else but the cuts of the pool; the pool with its right sides at the end; and the outcomes of
-- each caller's plan commands, by caller and then by serial. Where one plan command is all, and its outcome is a plan, that plan is of
-- position 0, and the pool is, in its order, a worked list that begins with no known cut.
pub record IsTranscript (p : Case) (notes : Notes) (commands : List Command) (r : Report) : Type 0 where
  pub notes_are : r.notes ≡ notes
  pub legal : ∥ IsLegalHistory p r.entries ∥₁
  pub edits : (caller : ℕ) → flat_map (edit_made caller) r.entries ≡ flat_map edit_asked (acts_of caller commands)
  pub pool_is : ∥ IsPoolAfter p r.entries r.pool ∥₁
  pub runs : (caller : ℕ) → RunsFrom p r.entries caller 0 1 (acts_of caller commands) (outcomes_of caller r.outcomes)
  pub ordered : AllPairs (λ a b. outcome_caller a ≤ outcome_caller b) r.outcomes
  pub form : IsReportInForm (known_to p) r
  pub alone : IsOnePlan commands → All IsPlanned r.outcomes → All (λ o. outcome_position o ≡ 0) r.outcomes × ∥ IsWorkedPool p r.entries ∥₁
