-- the findings on a plan by itself, in their order
use Rattle.std.specs.Prelude.{◌≡◌, ◌≢◌, ⊤, Bool, List, [], ◌∷◌}
use Rattle.plan_terms.specs.Terms.{Case, capacities}
use Rattle.plan_types.{specs.Terms.{IsCarryingPlan, IsCertifiedPlan, IsCostedPlan, lines_of_certificate}, specs.declared.plan.Plan.Plan}
use Rattle.plan_checker.{specs.Carried.{HoldsBadPath, HoldsNotCarried, HoldsOverloaded}, specs.Certified.{HoldsCostDiffers, HoldsLocalCut, HoldsRightDiffers, HoldsPriceExceeded, HoldsCertificateWide, HoldsRawDiffers, HoldsBoundDiffers}, specs.Order.{HoldNone, IsFirstFinding, Kind}, specs.Shares.HoldsNotTight, specs.declared.finding.CheckAnswer.CheckAnswer, specs.declared.finding.CheckAnswer.TheVariants.{Accepted, Rejected, NoMemory}, specs.declared.finding.Finding.Finding, specs.declared.finding.Finding.TheVariants.DemandsDiffer}

-- the demands aren't the plan's
abbrev pub HoldsDemandsDiffer : Case → Plan → Finding → Type 0
HoldsDemandsDiffer p plan DemandsDiffer = plan.demands ≢ p.demands
HoldsDemandsDiffer p plan _ = ⊥

-- the kinds of findings on a plan for the case of its own demands, where the pool is full or not
abbrev pub own_findings : Case → Bool → Plan → List Kind
own_findings p full plan =
    HoldsBadPath p plan.routings
    ∷ HoldsNotCarried p plan.routings
    ∷ HoldsOverloaded (capacities p.links plan.counts) plan.routings
    ∷ HoldsCostDiffers p plan
    ∷ HoldsLocalCut p full plan.certificate.lines
    ∷ HoldsRightDiffers p plan.certificate.lines
    ∷ HoldsPriceExceeded p.links plan.certificate.den (lines_of_certificate plan.certificate)
    ∷ HoldsCertificateWide p.links (lines_of_certificate plan.certificate)
    ∷ HoldsRawDiffers p.links plan
    ∷ HoldsBoundDiffers p.links plan
    ∷ HoldsNotTight p plan
    ∷ []

-- the case with the plan's own demands
abbrev pub plan_case : Case → Plan → Case
plan_case p plan = record { nodes = p.nodes; links = p.links; listed = p.listed; demands = plan.demands; places = p.places }

-- the kinds of findings on a plan for a case
abbrev pub plan_findings : Case → Bool → Plan → List Kind
plan_findings p full plan = HoldsDemandsDiffer p plan ∷ own_findings (plan_case p plan) full plan

-- the plan carries the demands in each state, its cost is its own, and its bound is certified
pub record IsAcceptedPlan (p : Case) (plan : Plan) : Type 0 where
  pub carrying : IsCarryingPlan p plan
  pub costed : IsCostedPlan p plan
  pub certified : IsCertifiedPlan p plan

-- the answer on a plan: no finding holds, or the first one, which is that of no outcome
abbrev pub AnswersPlan : List Kind → CheckAnswer → Type 0
AnswersPlan kinds Accepted = HoldNone kinds
AnswersPlan kinds (Rejected outcome finding) = (outcome ≡ 0) × IsFirstFinding kinds finding
AnswersPlan kinds NoMemory = ⊤
