-- the report of a plan is acceptable, and so is that of a plan with another design
use Rattle.std.proofs.Common.{◌≡◌, ◌∙◌, ℕ, List, [], ap, sym, subst, arith, All}
use Rattle.net_core.proofs.Library.{∥∥₁_elim, props, All-cons, All-head, All-nil}
use Rattle.plan_terms.specs.Terms.{Demand, Notes, Routing, Case}
use Rattle.plan_types.specs.Terms.{IsCarryingPlan}
use Rattle.plan_report.specs.Terms.{AreRoutingsInForm, IsOutcomeInForm, IsReportInForm, known_to, Plan, Planned, Report}
use Rattle.plan_checker.specs.Terms.{HoldNone}
use Rattle.acceptance.{specs.Terms.{IsBelowAllAble, case_at, outcome_findings, HasNoFinding, IsTranscript}, specs.Reports.{IsSoundOutcomeOf, IsSoundPlanOf}, proofs.Reports.outcome_none, proofs.Sound.none_prop, proofs.Transcripts.{transcript_accepted, transcript_sound}}
use Rattle.plan_reports.{specs.declared.planned_report.PlannedReport.PlannedReport, specs.Laws.{IsAcceptable, LonePlansAreAccepted, RedesignsAreAccepted}, specs.LonePlans.{IsSoundDesign, plan_commands, redesigned, redesigned_plan, whole_report}, proofs.Alone.unmoved}

pub lone_plans_are_accepted : LonePlansAreAccepted
lone_plans_are_accepted p notes r t =
    let accepted = transcript_accepted p notes plan_commands (whole_report r) (omega arith) t in
    record { form = t.form; clean = accepted.0; bounded = accepted.1 }

module _ (p : Case) (notes : Notes) (r : PlannedReport) (counts : List (List ℕ)) (cost : ℕ) (routings : List Routing)
    (t : IsTranscript p notes plan_commands (whole_report r)) (design : IsSoundDesign p (redesigned_plan r.plan counts cost routings)) where
  abbrev old : Plan
  old = r.plan

  abbrev new : Plan
  new = redesigned_plan r.plan counts cost routings

  abbrev before : Report
  before = whole_report r

  abbrev after : Report
  after = whole_report (redesigned r counts cost routings)

  -- no edit has changed the demands
  same_demands : (n : ℕ) → case_at p r.entries n ≡ p
  same_demands n = ap (λ (ds : List Demand). record { nodes = p.nodes; links = p.links; listed = p.listed; demands = ds; places = p.places }) (unmoved p notes before t n)

  module _ (sound : IsSoundPlanOf p before old) where
    demands_are : old.demands ≡ p.demands
    demands_are = sound.demands ∙ unmoved p notes before t old.position

    new_sound : IsSoundPlanOf p after new
    new_sound = record {
      position = sound.position;
      version = sound.version;
      demands = sound.demands;
      carrying = subst (λ q. IsCarryingPlan q new) (sym (same_demands old.position)) design.carrying;
      costed = design.costed;
      certified = record { certificate = sound.certified.certificate; raw = sound.certified.raw; rounded = sound.certified.rounded };
      pooled = sound.pooled;
      tight = λ f is. let tight = sound.tight f is in record { nums = tight.nums; cost = tight.cost; given = tight.given; raw = tight.raw; carried = tight.carried };
    }

    new_clean : HoldNone (outcome_findings p after (Planned 1 1 new))
    new_clean = outcome_none p after (Planned 1 1 new) new_sound

  -- the plan of the transcript is sound
  is_sound : ∥ IsSoundPlanOf p before old ∥₁
  is_sound = All-head (λ o. ∥ IsSoundOutcomeOf p before o ∥₁) (Planned 1 1 old) [] (transcript_sound p notes plan_commands before (omega arith) t)

  accepted : HasNoFinding notes p before × All (IsBelowAllAble p before) before.outcomes
  accepted = transcript_accepted p notes plan_commands before (omega arith) t

  -- the routings are in form for the demands that the plan names, which are the same
  routings_form : AreRoutingsInForm (known_to p) old.demands routings
  routings_form = ∥∥₁_elim is_sound (hlevel props) (λ sound. subst (λ ds. AreRoutingsInForm (known_to p) ds routings) (sym (demands_are sound)) design.form)

  new_form : IsOutcomeInForm (known_to p) r.pool (Planned 1 1 new)
  new_form =
      let was = All-head (IsOutcomeInForm (known_to p) r.pool) (Planned 1 1 old) [] t.form.outcomes in
      record {
        command = was.command;
        plan = record {
          version = was.plan.version;
          position = was.plan.position;
          demands = was.plan.demands;
          counts = design.shape;
          limits = design.limits;
          cost = design.low;
          routings = routings_form;
          certificate = was.plan.certificate;
          raw_num = was.plan.raw_num;
          raw_positive = was.plan.raw_positive;
          raw_den = was.plan.raw_den;
          bound = was.plan.bound;
          quality = was.plan.quality;
        };
        pooled = was.pooled;
      }

  form_kept : IsReportInForm (known_to p) after
  form_kept = record {
    few_entries = t.form.few_entries;
    entries = t.form.entries;
    few_lines = t.form.few_lines;
    pool = t.form.pool;
    few_outcomes = omega arith;
    outcomes = All-cons (IsOutcomeInForm (known_to p) r.pool) (Planned 1 1 new) [] new_form (All-nil (IsOutcomeInForm (known_to p) r.pool));
  }

  kept : IsAcceptable p notes after
  kept = record {
    form = form_kept;
    clean = record {
      whole = accepted.0.whole;
      outcomes = All-cons (λ o. HoldNone (outcome_findings p after o)) (Planned 1 1 new) []
          (∥∥₁_elim is_sound (none_prop (outcome_findings p after (Planned 1 1 new))) new_clean)
          (All-nil (λ o. HoldNone (outcome_findings p after o)));
    };
    bounded = All-cons (IsBelowAllAble p after) (Planned 1 1 new) [] (All-head (IsBelowAllAble p before) (Planned 1 1 old) [] accepted.1) (All-nil (IsBelowAllAble p after));
  }

pub redesigns_are_accepted : RedesignsAreAccepted
redesigns_are_accepted p notes r counts cost routings t design = kept p notes r counts cost routings t design
