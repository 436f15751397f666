use Rattle.command_answers.specs.Answers.{EndsPlan}
use Rattle.input_files.specs.Stops.{named}
use Rattle.planner_commands.proofs.Answering.{after_inputs}
use Rattle.planner_commands.proofs.run.plan_files.Goals as goal

pub returns-clause-ends : goal.returns-clause-ends
returns-clause-ends g c =
    after_inputs (g.S.Shelf.files c.args.shelf.now) (named c.args.files.now) EndsPlan c.in_ok-problem.problem c.in_ok-problem.ensures.has
    c.in_ok-answer_plan.field-0.status c.in_ok-answer_plan.field-0.text c.in_ok-answer_plan.ensures
