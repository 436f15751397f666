-- a cheaper design in the place of a plan's own
use Rattle.std.proofs.Common.{◌≡◌, ◌∙◌, ℕ, ◌≤◌, ◌==◌, ◌++◌, Bool, true, false, cond, if◌then◌else◌, List, [], ◌∷◌, take, ap, sym, subst, arith, All}
use Rattle.net_core.proofs.Library.{∥∥₁_map, All-cons, All-head, All-nil}
use Rattle.plan_terms.specs.Terms.{Demand, Evidence, Route, Master, CutLine, Entry, Notes, Routing, Case}
use Rattle.module_prices.specs.declared.cheapest.UnitPair.{UnitPair}
use Rattle.plan_report.specs.Terms.{AreRoutingsInForm, IsPlanInForm, known_to, Plan, Cause, Wide, Cuts, Quality, Tight, Loose, Planned, Report}
use Rattle.route_law.specs.Terms.{IsLowestRouting}
use Rattle.plan_law.specs.Terms.{HasQuality, IsLooseBy, IsLooseByWidth, KeepsUp, Round}
use Rattle.cut_pool.{specs.declared.snapshot.Snapshot.Snapshot, specs.Terms.case_left}
use Rattle.acceptance.specs.Terms.{IsSnapshotPlan, IsOutcomeAfter, IsPlanBetween, IsPlanned, IsTranscript, RunsFrom}
use Rattle.session_script.specs.declared.script.Act.{Act}
use Rattle.plan_types.specs.Terms.{outcome_position}
use Rattle.plan_reports.{specs.declared.planned_report.PlannedReport.PlannedReport, specs.Designs.CheaperRedesignsArePlans, specs.LonePlans.{IsSoundDesign, plan_commands, redesigned, redesigned_plan, whole_report}, proofs.Accepted.redesigns_are_accepted, proofs.Alone.unmoved}
use Rattle.session_script.specs.declared.script.Act.TheVariants as acts

-- ---- what a plan is loose or tight by

module _ (p : Case) (pairs : List UnitPair) (snapshot : List CutLine) (plan : Plan) (counts : List (List ℕ)) (cost : ℕ) (routings : List Routing) (cheaper : cost ≤ plan.cost) where
  abbrev newer : Plan
  newer = redesigned_plan plan counts cost routings

  keeps_up : (rounds : List Round) → KeepsUp pairs rounds plan → KeepsUp pairs rounds newer
  keeps_up [] is = is
  keeps_up (last ∷ earlier) is = is

  loose_width : (rounds : List Round) (cuts : List CutLine) (evidence : Evidence) → IsLooseByWidth p pairs plan rounds cuts evidence → IsLooseByWidth p pairs newer rounds cuts evidence
  loose_width rounds cuts (Route state caps basis kind) is =
      record { listed_state = is.listed_state; share = is.share; least = is.least; raw = is.raw; of_share = is.of_share; evidence = is.evidence }
  loose_width rounds cuts (Master basis kind) is = (is.0, keeps_up rounds is.1)

  loose_kept : (rounds : List Round) (cuts : List CutLine) (cause : Cause) → IsLooseBy p pairs snapshot plan rounds cuts cause → IsLooseBy p pairs snapshot newer rounds cuts cause
  loose_kept rounds cuts (Wide evidence) is = loose_width rounds cuts evidence is
  loose_kept rounds cuts Cuts is = record { full = is.full; share = is.share; least = is.least; raw = is.raw; further = is.further; found = is.found }

  quality_kept : (rounds : List Round) (cuts : List CutLine) (quality : Quality) → HasQuality p pairs snapshot plan rounds cuts quality → HasQuality p pairs snapshot newer rounds cuts quality
  quality_kept rounds cuts (Tight fractional) is = record {
    units = is.units;
    share = is.share;
    raw = is.raw;
    carried = is.carried;
    cost = record { counts = is.cost.counts; covers = is.cost.covers; at_most = let most = is.cost.at_most in omega (arith, most, cheaper) };
  }
  quality_kept rounds cuts (Loose cause) is = loose_kept rounds cuts cause is

-- ---- plans of snapshots

module _ (p : Case) (snapshot : Snapshot) (history : List Entry) (plan : Plan) (counts : List (List ℕ)) (cost : ℕ) (routings : List Routing)
    (same : plan.demands ≡ p.demands) (design : IsSoundDesign p (redesigned_plan plan counts cost routings)) (lowest : All IsLowestRouting routings) (cheaper : cost ≤ plan.cost)
    (is : IsSnapshotPlan p snapshot history plan) where
  abbrev new : Plan
  new = redesigned_plan plan counts cost routings

  new_form : IsPlanInForm (known_to p) new
  new_form = record {
    version = is.form.version;
    position = is.form.position;
    demands = is.form.demands;
    counts = design.shape;
    limits = design.limits;
    cost = design.low;
    routings = subst (λ (ds : List Demand). AreRoutingsInForm (known_to p) ds routings) (sym same) design.form;
    certificate = is.form.certificate;
    raw_num = is.form.raw_num;
    raw_positive = is.form.raw_positive;
    raw_den = is.form.raw_den;
    bound = is.form.bound;
    quality = is.form.quality;
  }

  snapshot_plan_kept : IsSnapshotPlan p snapshot history new
  snapshot_plan_kept = record {
    same_version = is.same_version;
    same_position = is.same_position;
    same_demands = is.same_demands;
    carrying = design.carrying;
    costed = design.costed;
    certified = record { certificate = is.certified.certificate; raw = is.certified.raw; rounded = is.certified.rounded };
    above = is.above;
    below = record {
      counts = is.below.counts;
      routings = is.below.routings;
      fallback_cost = is.below.fallback_cost;
      fallback = is.below.fallback;
      at_most = let most = is.below.at_most in omega (arith, most, cheaper);
    };
    form = new_form;
    lowest = record { certificate = is.lowest.certificate; none = is.lowest.none; routings = lowest };
    spots = is.spots;
    cuts = is.cuts;
    worked = record {
      pairs = is.worked.pairs;
      rounds = is.worked.rounds;
      worked = is.worked.worked;
      certificate = is.worked.certificate;
      quality = quality_kept p is.worked.pairs snapshot.cuts plan counts cost routings cheaper is.worked.rounds is.cuts plan.quality is.worked.quality;
    };
    held = is.held;
  }

-- ---- transcripts

module _ (p : Case) (notes : Notes) (r : PlannedReport) (counts : List (List ℕ)) (cost : ℕ) (routings : List Routing)
    (t : IsTranscript p notes plan_commands (whole_report r)) (design : IsSoundDesign p (redesigned_plan r.plan counts cost routings)) (lowest : All IsLowestRouting routings) (cheaper : cost ≤ r.plan.cost) where
  abbrev after : Report
  after = whole_report (redesigned r counts cost routings)

  abbrev new_plan : Plan
  new_plan = redesigned_plan r.plan counts cost routings

  -- what an edit has left of the case is the case
  same_case : (n : ℕ) → p ≡ case_left p (take n r.entries)
  same_case n = ap (λ (ds : List Demand). record { nodes = p.nodes; links = p.links; listed = p.listed; demands = ds; places = p.places }) (sym (unmoved p notes (whole_report r) t n))

  plan_between : (n m : ℕ) → IsPlanBetween p (take n r.entries) (take m r.entries) r.plan → IsPlanBetween p (take n r.entries) (take m r.entries) new_plan
  plan_between n m is = record {
    snapshot = is.snapshot;
    position = is.position;
    version = is.version;
    demands = is.demands;
    pool = is.pool;
    sound = snapshot_plan_kept (case_left p (take n r.entries)) is.snapshot (take m r.entries) r.plan counts cost routings
        (is.sound.same_demands ∙ is.demands)
        (subst (λ (q : Case). IsSoundDesign q new_plan) (same_case n) design)
        lowest cheaper is.sound;
  }

  outcome_kept : (n m caller serial : ℕ) → IsOutcomeAfter p (take n r.entries) (take m r.entries) caller serial (Planned 1 1 r.plan)
      → IsOutcomeAfter p (take n r.entries) (take m r.entries) caller serial (Planned 1 1 new_plan)
  outcome_kept n m caller serial is = (is.0, is.1, ∥∥₁_map is.2 (plan_between n m))

  abbrev asked : Bool → List Act
  asked b = (if b then acts.Plan ∷ [] else []) ++ []

  run_kept : (caller : ℕ) (b : Bool) → RunsFrom p r.entries caller 0 1 (asked b) (cond b (Planned 1 1 r.plan ∷ []) []) → RunsFrom p r.entries caller 0 1 (asked b) (cond b (Planned 1 1 new_plan ∷ []) [])
  run_kept caller true run = (run.0, run.1, run.2, run.3, run.4, outcome_kept run.0 run.1 caller 1 run.5, run.6)
  run_kept caller false run = run

  transcript_kept : IsTranscript p notes plan_commands after
  transcript_kept = record {
    notes_are = t.notes_are;
    legal = t.legal;
    edits = t.edits;
    pool_is = t.pool_is;
    runs = λ caller. run_kept caller (1 == caller) (t.runs caller);
    ordered = λ i j d lt le. absurd (omega (arith, lt, le));
    form = (redesigns_are_accepted p notes r counts cost routings t design).form;
    alone = λ one planned.
        let first = t.alone one (All-cons IsPlanned (Planned 1 1 r.plan) [] tt (All-nil IsPlanned)) in (
          All-cons (λ o. outcome_position o ≡ 0) (Planned 1 1 new_plan) [] (All-head (λ o. outcome_position o ≡ 0) (Planned 1 1 r.plan) [] first.0) (All-nil (λ o. outcome_position o ≡ 0)),
          first.1,
        );
  }

pub cheaper_redesigns_are_plans : CheaperRedesignsArePlans
cheaper_redesigns_are_plans p notes r counts cost routings t design lowest cheaper = transcript_kept p notes r counts cost routings t design lowest cheaper
