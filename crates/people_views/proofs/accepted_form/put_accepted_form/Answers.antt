use Rattle.plan_view.specs.Terms.{problem_case}
use Rattle.people_views.proofs.SoundOutcomes.{outcomes_sound}
use Rattle.people_views.proofs.accepted_form.put_accepted_form.Goals as goal

pub put_form-requires-clause-sound : goal.put_form-requires-clause-sound
put_form-requires-clause-sound c =
    let problem = c.args.problem.now in
    rw c.items.ensures (outcomes_sound (problem_case problem) c.args.report.now problem.belong problem.net.notes c.requires.accepted)
