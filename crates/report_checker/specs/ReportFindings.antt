-- the findings on a report, in their order
use Rattle.std.specs.Prelude.{ℕ, zero, suc, ◌<◌, List, [], ◌∷◌, All}
use Rattle.plan_terms.specs.Terms.{Notes, Case}
use Rattle.plan_types.specs.declared.report.Report.{Report}
use Rattle.plan_checker.{specs.Terms.{HoldNone, IsFirstFinding, Kind, HoldsAt}, specs.declared.finding.CheckAnswer.CheckAnswer, specs.declared.finding.CheckAnswer.TheVariants.{Accepted, NoMemory, Rejected}, specs.declared.finding.Finding.Finding}
use Rattle.cut_pool.specs.Terms.{case_left}
use Rattle.report_checker.{specs.Journals.{HoldsEntryDiffers, HoldsNotesDiffer}, specs.Outcomes.outcome_findings, specs.Pools.{HoldsBadCut, HoldsPoolCount, HoldsPoolDiffers}}

-- the kinds of findings on the whole report, where these are the network's notes, and the case has the opening demands
abbrev pub whole_findings : Notes → Case → Report → List Kind
whole_findings notes p r =
    HoldsNotesDiffer notes r.notes
    ∷ HoldsEntryDiffers p r.entries
    ∷ HoldsPoolCount r.entries r.pool
    ∷ HoldsBadCut p r.pool
    ∷ HoldsPoolDiffers (case_left p r.entries) r.pool
    ∷ []

-- no finding holds of the report
pub record HasNoFinding (notes : Notes) (p : Case) (r : Report) : Type 0 where
  pub whole : HoldNone (whole_findings notes p r)
  pub outcomes : All (λ o. HoldNone (outcome_findings p r o)) r.outcomes

-- the first finding of the report: on the whole of it, with 0, or else on outcome j, from 1, where those before it have none
abbrev pub IsFirstOfReport : Notes → Case → Report → ℕ → Finding → Type 0
IsFirstOfReport notes p r zero f = IsFirstFinding (whole_findings notes p r) f
IsFirstOfReport notes p r (suc j) f =
    HoldNone (whole_findings notes p r)
    × ((i : ℕ) → i < j → HoldsAt r.outcomes i (λ o. HoldNone (outcome_findings p r o)))
    × HoldsAt r.outcomes j (λ o. IsFirstFinding (outcome_findings p r o) f)

-- the answer on a report: no finding holds, or the first one, with its outcome
abbrev pub AnswersReport : Notes → Case → Report → CheckAnswer → Type 0
AnswersReport notes p r Accepted = HasNoFinding notes p r
AnswersReport notes p r (Rejected outcome finding) = IsFirstOfReport notes p r outcome finding
AnswersReport notes p r NoMemory = Unit {0}
