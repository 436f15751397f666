use Rattle.std.proofs.Common.{◌++◌, ◌∙◌, ap, subst, sym}
use Rattle.net_core.specs.Terms.{case}
use Rattle.fault_messages.specs.Notes.{AreReportNotes}
use Rattle.fault_messages.proofs.notes.report_notes.Goals as goal

pub returns : goal.returns
returns c =
    let put = c.in_ok-put_report_notes.ensures in
    subst (AreReportNotes (case c.args.problem.now.net c.args.problem.now.states c.args.problem.now.demands) c.args.bytes.now c.args.at c.args.kind) (sym (put.2 ∙ ap (λ t. t ++ put.0) c.new-text.ensures)) put.1
