use Rattle.std.proofs.Common.{IfOk, subst}
use Rattle.plan_terms.specs.Terms.{case, case_of}
use Rattle.acceptance.specs.Terms.{IsTranscript}
use Rattle.plan_reports.proofs.lone.lone_report.Goals as goal

pub returns : goal.returns
returns g c =
    let i = c.args.instance.now in
    let net = i.net.now in
    subst (λ commands. IfOk c.run_session.result (IsTranscript (case_of i) net.notes commands)) c.in_ok-script.ensures.script
    (subst (λ demands. IfOk c.run_session.result (IsTranscript (case net i.states.now demands) net.notes c.in_ok-script.script.commands)) c.in_ok-demands.ensures
    c.run_session.ensures)
