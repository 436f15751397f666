-- what planning for a snapshot knows, from what it was given
use Rattle.std.proofs.Common.{◌≡◌, ℕ, ◌≤◌, List, All, IfSome, get_or, length, take, drop, sym, ap, subst, ◌∙◌, arith, length-append, take-append-drop}
use Rattle.net_core.proofs.Library.{∥∥₁_elim, ∥∥₁_map, take-length, props, length-map}
use Rattle.plan_terms.specs.Terms.{Entry, Network, CutLine, States, Case, graph_in, AreDemands, IsNetwork, case, IsCut, HasShortLengths}
use Rattle.plan_types.specs.declared.plan.Plan.{Plan}
use Rattle.cut_pool.{specs.Terms.{cut_of_line, cuts_of, IsSnapshotOf, opening_case}, specs.declared.board.Board.Board, specs.declared.snapshot.Snapshot.Snapshot}
use Rattle.plan_rounds.{specs.declared.rounds.Worked.Worked, proofs.Rights.right_low, specs.Terms.{IsSeenHistory, AreWorkedRounds, IsPoolOf}}
use Rattle.share_covers.specs.declared.choice.Chosen.{Chosen}
use Rattle.turn_lock.specs.Passes.{Seen}
use Rattle.planner.{specs.SnapshotPlans.{IsSnapshotIn, IsSnapshotPlan}, specs.declared.own_bound.CertifiedBound.CertifiedBound, specs.inner.Candidates.HaveBounds, specs.inner.Finishing.{AreMultipliersOf, AreWorkedOut, IsShareFor, plan_made}, proofs.BestBounds.have_bounds, proofs.Histories.{cuts_both, version_few}, proofs.SnapshotBounds.{IsWorkedFor, candidates_are, multipliers_are, shares_are}, proofs.SnapshotSound.plan_sound}

-- the first entries pool no more cuts than all
first_few : (n : ℕ) (history : List Entry) → length (cuts_of (take n history)) ≤ length (cuts_of history)
first_few n history =
    let parts = ap length (ap cuts_of (take-append-drop n history)) in
    let both = ap length (cuts_both (take n history) (drop n history)) in
    omega (arith, parts, both, length-append (cuts_of (take n history)) (cuts_of (drop n history)))

pub pool_few : {p : Case} {net : Network} {states : States} {known : Seen Entry} {s : Snapshot} → ∥ IsSnapshotIn p known.history s ∥₁ → ∥ IsSeenHistory net states known ∥₁ → length s.cuts ≤ 4096
pool_few {known = known} {s = s} given seen =
    ∥∥₁_elim given (hlevel props) (λ is. ∥∥₁_elim seen (hlevel props) (λ kept.
    let same = ap length is.pooled in
    let few = first_few s.position known.history in
    omega (arith, same, few, kept.few_cuts, length-map s.cuts cut_of_line)))

pub pool_known : (net : Network) (states : States) (history : List Entry) (s : Snapshot) → AreDemands (length net.nodes) s.demands → ∥ IsSnapshotIn (case net states s.demands) history s ∥₁ → All HasShortLengths s.cuts
    → ∥ IsPoolOf (case net states s.demands) history s.cuts ∥₁
pool_known net states history s belong given short =
    let p = case net states s.demands in
    ∥∥₁_elim net.checked (hlevel props) (λ checked. ∥∥₁_map given (λ is. record {
      position = s.position;
      pooled = is.pooled;
      cuts = is.cuts;
      low = λ k d lt.
          let cut : CutLine = get_or s.cuts k d in
          right_low (graph_in p cut.state.0) ∣ checked ∣₁ checked.few_nodes s.demands belong cut.lengths (short k d lt) cut.right (is.cuts k d lt).right;
    }))

-- ---- after the rounds

pub worked_for : {p : Case} {net : Network} {states : States} {before : List Entry} {now : Seen Entry} {pool : List CutLine} {w : Worked}
    → ∥ IsPoolOf p before pool ∥₁ → length pool ≤ 4096 → ∥ AreWorkedRounds p now.history pool w ∥₁ → ∥ IsNetwork p.nodes p.links ∥₁
    → ∥ IsSeenHistory net states now ∥₁ → ∥ IsWorkedFor p now.history pool w ∥₁
worked_for given few worked checked seen =
    ∥∥₁_elim given (hlevel props) (λ is. ∥∥₁_elim checked (hlevel props) (λ net. ∥∥₁_elim seen (hlevel props) (λ kept. ∥∥₁_map worked (λ are. record {
      net = net;
      cuts = is.cuts;
      few_pool = few;
      few = kept.few_cuts;
      are = are;
    }))))

module _ {p : Case} {history : List Entry} {pool : List CutLine} {w : Worked} (told : ∥ IsWorkedFor p history pool w ∥₁) where
  pub bounds_known : HaveBounds p.links w
  bounds_known = have_bounds p history w (∥∥₁_map told (λ f. candidates_are f)) (∥∥₁_elim told (hlevel props) (λ f.
      let long = ap length f.are.list.following in
      omega (arith, long, f.are.list.few, f.few_pool, length-append pool f.are.list.added)))

  pub multipliers_known : ∥ IfSome w.best (AreMultipliersOf w) ∥₁
  multipliers_known = ∥∥₁_map told (λ f. multipliers_are f)

  pub shares_known : ∥ IfSome w.best (IsShareFor p w.quality) ∥₁
  shares_known = ∥∥₁_map told (λ f. shares_are f)

-- the plan that is made is sound
pub made_sound : {p : Case} {net_before net_after : Network} {states_before states_after : States} {before now : Seen Entry} {s : Snapshot}
    → ∥ IsSnapshotIn p before.history s ∥₁ → ∥ IsPoolOf p before.history s.cuts ∥₁ → ∥ IsNetwork p.nodes p.links ∥₁ → ∥ IsSeenHistory net_before states_before before ∥₁
    → ∥ IsSeenHistory net_after states_after now ∥₁ → (chosen : Chosen) (b : CertifiedBound) (plan : Plan) → AreDemands (length p.nodes) p.demands → ∥ AreWorkedOut p now.history s.cuts chosen b ∥₁
    → All (λ d. length d.name ≤ 255) p.demands → p.demands ≡ s.demands → plan ≡ plan_made (record { version = s.version; position = s.position }) p.demands chosen b
    → ∥ IsSnapshotPlan p s now.history plan ∥₁
made_sound {p = p} {before = before} {now = now} {s = s} given pool checked seen_before seen chosen b plan belong worked named demands same =
    ∥∥₁_elim given (hlevel props) (λ is. ∥∥₁_elim seen_before (hlevel props) (λ kept. ∥∥₁_elim worked (hlevel props) (λ out.
    ∥∥₁_map (worked_for pool (pool_few given seen_before) ∣ out.rounds ∣₁ checked seen) (λ f.
    let counts = out.after.counts in
    let low : s.position ≤ 65536 = let inside = is.position in omega (arith, inside, kept.few) in
    subst (IsSnapshotPlan p s now.history) (sym same)
    (plan_sound p f.net belong counts.fallback counts.is_fallback counts.narrow s f b chosen out.after.short out.after.better counts.is_chosen is.version low named demands)))))

-- ---- snapshots of a board

-- the snapshot of a board is one of its history
pub board_snapshot : (net : Network) (states : States) (b : Board) (s : Snapshot) → b.net.now ≡ net → b.states.now ≡ states → IsSnapshotOf b s → ∥ IsSnapshotIn (case net states s.demands) b.entries s ∥₁
board_snapshot net states b s one two is = ∥∥₁_elim is.pool (hlevel props) (λ pool. ∥∥₁_map is.cuts_are (λ cuts. record {
  version = let v = version_few (opening_case b) b.entries in let e = is.version_is in let p = is.position_is in omega (arith, v, e, p);
  position = let e = is.position_is in omega (arith, e);
  pooled = pool.cuts ∙ ap cuts_of (sym (take-length b.entries)) ∙ ap (λ n. cuts_of (take n b.entries)) (sym is.position_is);
  cuts = subst (λ (q : Case). All (IsCut q) s.cuts) (ap (λ n. case n b.states.now s.demands) one ∙ ap (λ x. case net x s.demands) two) cuts;
}))
