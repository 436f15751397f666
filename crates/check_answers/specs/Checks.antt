-- the answer of a check of a report: a status, and a text
use Rattle.std.specs.Prelude.{◌≡◌, ℕ, ◌⊎◌, List, All, length}
use Rattle.plan_terms.specs.Terms.{Notes, Case}
use Rattle.plan_types.specs.declared.report.Report.{Report}
use Rattle.report_checker.specs.Terms.{Finding, IsAcceptedOutcome, IsBelowAllAble, HasNoFinding, IsFirstOfReport}
use Rattle.outside_io.{specs.declared.status.Status.Status, specs.declared.status.Status.TheVariants.{Done, Rejected}}
use Rattle.check_answers.specs.Findings.{accepted_line, rejected_line}

-- What a check says of a report: that no finding holds, and then each outcome is what an accepted one is known to be and each plan's
-- bound holds for all able counts; or the first finding.
abbrev pub IsJudged : Case → Notes → Report → Status → List ℕ → Type 0
IsJudged p notes r status text =
    ((status ≡ Done) × HasNoFinding notes p r × All (IsAcceptedOutcome p r) r.outcomes × All (IsBelowAllAble p r) r.outcomes
    × (text ≡ accepted_line (length r.outcomes)))
    ⊎ ((status ≡ Rejected) × ((outcome : ℕ) × (finding : Finding)
    × IsFirstOfReport notes p r outcome finding
    × (text ≡ rejected_line p.places p.links r.outcomes outcome finding)))
