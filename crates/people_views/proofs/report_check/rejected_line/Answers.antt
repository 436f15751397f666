use Rattle.plan_view.specs.Terms.{problem_case}
use Rattle.people_views.proofs.Findings.{judged_so}
use Rattle.people_views.proofs.report_check.rejected_line.Goals as goal

pub returns : goal.returns
returns c =
    let problem = c.args.problem.now in
    judged_so (problem_case problem) problem.net.notes c.args.report.now c.in_ok-judged.judged.status c.in_ok-judged.judged.text c.requires.unclean c.in_ok-judged.ensures
