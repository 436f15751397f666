-- what holds of a transcript of commands
use Rattle.std.specs.Prelude.{◌≤◌, List, All, length}
use Rattle.plan_terms.specs.Terms.{Notes, Case}
use Rattle.plan_types.specs.declared.report.Report.{Report}
use Rattle.session_script.specs.declared.script.Command.{Command}
use Rattle.session_run.specs.Transcripts.{IsTranscript}
use Rattle.report_checker.specs.Terms.{IsBelowAllAble, HasNoFinding}
use Rattle.acceptance.specs.Reports.{IsSoundOutcomeOf}

-- A transcript of at most 1,000 commands has no finding, and the bounds of its plans hold.
abbrev pub TranscriptsAreAccepted : Type 0
TranscriptsAreAccepted = (p : Case) (notes : Notes) (commands : List Command) (r : Report)
    → length commands ≤ 1000
    → IsTranscript p notes commands r
    → HasNoFinding notes p r × All (IsBelowAllAble p r) r.outcomes

-- Each outcome of a transcript of at most 1,000 commands is sound by itself.
abbrev pub TranscriptsAreSound : Type 0
TranscriptsAreSound = (p : Case) (notes : Notes) (commands : List Command) (r : Report)
    → length commands ≤ 1000
    → IsTranscript p notes commands r
    → All (λ o. ∥ IsSoundOutcomeOf p r o ∥₁) r.outcomes
