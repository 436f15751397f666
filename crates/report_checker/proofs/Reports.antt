-- answers on outcomes and on whole reports
use Rattle.std.proofs.Common.{◌≡◌, zero, suc, All, subst, sym}
use Rattle.net_core.proofs.Library.{All-weaker}
use Rattle.plan_terms.{specs.Terms.{Notes, Case}, proofs.Lemmas.weak_duality}
use Rattle.plan_types.specs.Terms.{lines_of_certificate}
use Rattle.plan_report.specs.Terms.{Outcome, Planned, Unsurvivable, Report}
use Rattle.plan_checker.{specs.Terms.{HoldNone, StopsFirst}, specs.declared.finding.CheckAnswer.CheckAnswer, specs.declared.finding.CheckAnswer.TheVariants.{Accepted, NoMemory, Rejected}, specs.declared.stop.Stop.Stop}
use Rattle.report_checker.{specs.Outcomes.{IsAcceptedOutcome, IsBelowAllAble, case_at}, specs.ReportFindings.{AnswersReport, whole_findings}, specs.inner.Outcomes.{TellOutcomes, answer_to}}
use Rattle.plan_checker.specs.declared.stop.Stop.TheVariants as stops

-- a report without finding on the whole of it
pub report_told : (notes : Notes) (p : Case) (r : Report) (a : CheckAnswer) → HoldNone (whole_findings notes p r) → TellOutcomes p r a → AnswersReport notes p r a
report_told notes p r Accepted none told = record { whole = none; outcomes = told }
report_told notes p r (Rejected zero f) none told = absurd told
report_told notes p r (Rejected (suc j) f) none told = (none, told.0, told.1)
report_told notes p r NoMemory none told = tt

-- a report with a finding on the whole of it
whole_stopped : (notes : Notes) (p : Case) (r : Report) (stop : Stop) → StopsFirst (whole_findings notes p r) stop → AnswersReport notes p r (answer_to stop)
whole_stopped notes p r (stops.Found f) first = first
whole_stopped notes p r stops.NoMemory first = tt

pub whole_stops : (notes : Notes) (p : Case) (r : Report) (stop : Stop) (a : CheckAnswer) → StopsFirst (whole_findings notes p r) stop → a ≡ answer_to stop → AnswersReport notes p r a
whole_stops notes p r stop a first is = subst (AnswersReport notes p r) (sym is) (whole_stopped notes p r stop first)

-- a reason to stop is no acceptance
pub never_accepted : (stop : Stop) (a : CheckAnswer) → a ≡ answer_to stop → a ≡ Accepted → ⊥
never_accepted (stops.Found f) a is accepted = absurd cc (is, accepted)
never_accepted stops.NoMemory a is accepted = absurd cc (is, accepted)

-- the bound of an accepted plan holds
bound_holds : (p : Case) (r : Report) (o : Outcome) → IsAcceptedOutcome p r o → IsBelowAllAble p r o
bound_holds p r (Planned caller serial plan) accepted = λ counts able.
    weak_duality (case_at p r.entries plan.position) plan.certificate.den (lines_of_certificate plan.certificate) plan.bound counts
    accepted.certified.certificate accepted.certified.rounded able
bound_holds p r (Unsurvivable caller serial version position state demand) accepted = tt

pub bounds_hold : (p : Case) (r : Report) → All (IsAcceptedOutcome p r) r.outcomes → All (IsBelowAllAble p r) r.outcomes
bounds_hold p r = All-weaker (IsAcceptedOutcome p r) (IsBelowAllAble p r) (bound_holds p r) r.outcomes
