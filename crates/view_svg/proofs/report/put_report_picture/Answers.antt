use Rattle.plan_view.specs.Terms.{problem_case}
use Rattle.view_svg.proofs.FirstPlans.{first_sound}
use Rattle.view_svg.proofs.report.put_report_picture.Goals as goal

pub put_planned-requires-clause-belong : goal.put_planned-requires-clause-belong
put_planned-requires-clause-belong c =
    (first_sound (problem_case c.args.problem.now) c.args.outcomes.now c.in-Some.plan.now c.requires c.in-Some.ensures).0

pub put_planned-requires-clause-sound : goal.put_planned-requires-clause-sound
put_planned-requires-clause-sound c =
    (first_sound (problem_case c.args.problem.now) c.args.outcomes.now c.in-Some.plan.now c.requires c.in-Some.ensures).1
