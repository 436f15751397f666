-- a caller's plan: the snapshot that it takes in a turn, and what comes of it
use Rattle.std.proofs.Common.{◌≡◌, ◌∙◌, ◌<◌, [], ◌∷◌, List, All, Some, length, slice_get, take, refl, sym, ap, subst, arith, IfOk, Result, Ok, Err}
use Rattle.net_core.proofs.Library.{∥∥₁_elim, ∥∥₁_map, props, slice_get_within}
use Rattle.plan_terms.specs.Terms.{Demand, Entry, NoMemory, Network, States, Case, AreDemands, case, IsCut, IsFirstSeparation}
use Rattle.plan_types.specs.declared.report.Outcome.{Outcome}
use Rattle.planner.{specs.Terms.{IsWorkedAlone, IsWorkedPool}, specs.declared.answer.PlanAnswer.PlanAnswer, specs.declared.answer.PlanAnswer.TheVariants.{Planned, NotSurvivable}, specs.SnapshotPlans.{IsSnapshotAnswer, IsSnapshotIn, IsSnapshotPlan, PoolsAlone}, proofs.Histories.version_few}
use Rattle.cut_pool.{specs.declared.board.Board.Board, specs.declared.snapshot.Snapshot.Snapshot, specs.Terms.{IsSnapshotOf, opening_case, origin_of, cuts_of, demands_left, case_left}}
use Rattle.separation_workers.{specs.Terms.SeesMore, proofs.Lemmas.sees_none}
use Rattle.turn_lock.specs.Passes.{Seen, opening_of}
use Rattle.board_desk.{specs.declared.caller.Caller.Caller, specs.Turns.{HasTurn, IsSameCaller, board_made, caller_seen}}
use Rattle.session_run.{specs.declared.plans.Asked.Asked, specs.Transcripts.{IsOutcomeAfter, IsPlanned}, specs.inner.Running.case_made, specs.inner.Turns.{IsOutcomeFor, IsSnapshotHere, NamesDemand, PlansAt, PlansSince}, proofs.Turns.own_same}

-- ---- the snapshot

-- the case of a board is told by its origin
pub same_opening : (a b : Board) → origin_of a ≡ origin_of b → opening_case a ≡ opening_case b
same_opening a b same = ap case_at same
  where
    case_at : Network × States × List Demand → Case
    case_at o = case o.0 o.1 o.2

-- a snapshot that was taken in a turn is of all that its caller has then seen
pub snapshot_here : (old new : Caller) (found : Board) (snapshot : Snapshot) → HasTurn old found found new → IsSnapshotOf found snapshot → IsSnapshotHere (case_made old) (caller_seen new).history snapshot
snapshot_here old new found snapshot turn is =
    let cuts : ∥ All (IsCut (case_left (opening_case found) found.entries)) snapshot.cuts ∥₁ =
    subst (λ d. ∥ All (IsCut (case found.net.now found.states.now d)) snapshot.cuts ∥₁) is.demands_are is.cuts_are in
    subst (λ p. IsSnapshotHere p (caller_seen new).history snapshot) (same_opening found (board_made old) turn.origin)
    (subst (λ es. IsSnapshotHere (opening_case found) es snapshot) (sym turn.seen)
    (record { position = is.position_is; version = is.version_is; demands = is.demands_are; belong = is.belong; pool = is.pool; cuts = cuts }))

module _ (net : Network) (states : States) (b : Board) (seen : List Entry) (snapshot : Snapshot) (one : b.net.now ≡ net) (two : b.states.now ≡ states)
    (here : IsSnapshotHere (opening_case b) seen snapshot) where
  -- the case of its demands
  pub snapshot_case : case net states snapshot.demands ≡ case_left (opening_case b) seen
  snapshot_case =
      ap (λ n. case n states snapshot.demands) (sym one)
      ∙ (ap (λ x. case b.net.now x snapshot.demands) (sym two) ∙ ap (λ d. case b.net.now b.states.now d) here.demands)

  pub snapshot_belongs : AreDemands (length net.nodes) snapshot.demands
  snapshot_belongs = subst (λ (n : Network). AreDemands (length n.nodes) snapshot.demands) one here.belong

  pub snapshot_seen : ∥ IsSnapshotIn (case net states snapshot.demands) seen snapshot ∥₁
  snapshot_seen =
      subst (λ q. ∥ IsSnapshotIn q seen snapshot ∥₁) (sym snapshot_case)
      (∥∥₁_elim here.pool (hlevel props) (λ pool. ∥∥₁_map here.cuts (λ cuts. record {
        version = omega (arith, here.version, here.position, version_few (opening_case b) seen);
        position = omega (arith, here.position);
        pooled = pool.cuts ∙ ap cuts_of (sym (ap (λ n. take n seen) here.position ∙ whole seen));
        cuts = cuts;
      })))
    where
      whole : {X : Type 0} (xs : List X) → take (length xs) xs ≡ xs
      whole [] = refl
      whole (x ∷ xs) = ap (λ ys. x ∷ ys) (whole xs)

-- ---- what comes of it

module _ (p q : Case) (asked : Asked) (old new : Seen Entry) (snapshot : Snapshot) (here : IsSnapshotHere p old.history snapshot) (same : q ≡ case_left p old.history)
    (more : SeesMore old new) where
  abbrev seen : List Entry
  seen = old.history

  abbrev seen_now : List Entry
  seen_now = new.history

  outcome_made : (answer : PlanAnswer) (o : Outcome) → IsSnapshotAnswer q snapshot seen seen_now answer → IsOutcomeFor asked snapshot.version snapshot.position answer o
      → IsOutcomeAfter p seen seen_now asked.caller asked.serial o
  outcome_made (Planned plan) o planned is =
      subst (IsOutcomeAfter p seen seen_now asked.caller asked.serial) (sym is) (
        refl,
        refl,
        ∥∥₁_elim here.pool (hlevel props) (λ pool. ∥∥₁_map planned (λ sound. record {
          snapshot = snapshot;
          position = here.position;
          version = here.version;
          demands = here.demands;
          pool = pool;
          sound = subst (λ r. IsSnapshotPlan r snapshot seen_now plan) same sound;
        })),
      )
  outcome_made (NotSurvivable s demands) o found is =
      let first : IsFirstSeparation (case_left p seen) s.state.0 s.demand = subst (λ r. IsFirstSeparation r s.state.0 s.demand) same found.0 in
      let there : slice_get (demands_left p seen) s.demand ≡ Some is.0 = subst (λ ds. slice_get ds s.demand ≡ Some is.0) (found.2 ∙ here.demands) is.1 in
      let demand : first.separates.demand ≡ is.0 = let own = first.separates.at in cc (own, there) in
      subst (IsOutcomeAfter p seen seen_now asked.caller asked.serial) (sym is.2) (
        refl,
        refl,
        here.version,
        here.position,
        record { place = s.demand; first = first; named = ap (λ (d : Demand). d.name) demand },
      )

  pool_made : (answer : PlanAnswer) (o : Outcome) → PoolsAlone q old new answer → IsOutcomeFor asked snapshot.version snapshot.position answer o
      → IsPlanned o → IsWorkedAlone p old new
  pool_made (Planned plan) o alone is planned = λ none all. subst (λ r. ∥ IsWorkedPool r seen_now ∥₁) (same ∙ ap (case_left p) none) (alone none all)
  pool_made (NotSurvivable s demands) o alone is planned = absurd (subst IsPlanned is.2 planned)

  pub plan_made : (answer : PlanAnswer) (made : Result Outcome NoMemory) → IsSnapshotAnswer q snapshot seen seen_now answer → PoolsAlone q old new answer
      → IfOk made (IsOutcomeFor asked snapshot.version snapshot.position answer) → PlansAt p asked old new made
  plan_made answer (Ok o) answered alone is = record { more = more; outcome = outcome_made answer o answered is; alone = pool_made answer o alone is }
  plan_made answer (Err fault) answered alone is = record { more = more; outcome = tt; alone = tt }

-- what was taken in the snapshot's turn and after it
module _ (old new : Caller) (found : Board) (turn : HasTurn old found found new) (same : IsSameCaller old new) (asked : Asked) where
  pub snapshot_at_desk : (snapshot : Snapshot) → IsSnapshotOf found snapshot → IsSnapshotHere (case_made new) (caller_seen new).history snapshot
  snapshot_at_desk snapshot is =
      subst (λ d. IsSnapshotHere (opening_case (opening_of d)) (caller_seen new).history snapshot) (sym same.desk) (snapshot_here old new found snapshot turn is)

  pub plan_since : (now : Seen Entry) (made : Result Outcome NoMemory) → PlansAt (case_made new) asked (caller_seen new) now made
      → PlansSince (case_made old) asked (caller_seen old) now made
  plan_since now made at = (
    (caller_seen new).history,
    (turn.begins.0, turn.begins.1 ∙ sym turn.seen),
    subst (λ d. PlansAt (opening_case (opening_of d)) asked (record { history = (caller_seen new).history; own = (caller_seen old).own }) now made) same.desk
        (subst (λ es. PlansAt (case_made new) asked (record { history = (caller_seen new).history; own = es }) now made) (own_same old new found found turn refl) at),
  )

  pub stopped_since : (fault : NoMemory) → PlansSince (case_made old) asked (caller_seen old) (caller_seen new) (Err fault)
  stopped_since fault =
      plan_since (caller_seen new) (Err fault) (record { more = sees_none (caller_seen new); outcome = tt; alone = tt })

-- the demand that a separation names is one of those handed back
pub names_one : (q : Case) (snapshot : Snapshot) (seen seen_now : List Entry) (answer : PlanAnswer) → q.demands ≡ snapshot.demands → IsSnapshotAnswer q snapshot seen seen_now answer → NamesDemand answer
names_one q snapshot seen seen_now (Planned plan) same answered = tt
names_one q snapshot seen seen_now (NotSurvivable s demands) same answered =
    let named = answered.0.separates in
    let within : s.demand < length q.demands = slice_get_within q.demands s.demand named.demand named.at in
    omega (arith, within, ap length same, ap length answered.2)
