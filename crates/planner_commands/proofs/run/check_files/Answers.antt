use Rattle.input_files.specs.Stops.{named}
use Rattle.planner_commands.{specs.Run.EndsCheck, proofs.Answering.answer_ends}
use Rattle.planner_commands.proofs.run.check_files.Goals as goal

pub returns-clause-ends : goal.returns-clause-ends
returns-clause-ends g c =
    let files = g.S.Shelf.files c.args.shelf.now in
    answer_ends files (named c.args.four.now.files) (EndsCheck files c.args.four.now.last.now) c.in_ok-problem.problem c.in_ok-problem.ensures.has
    c.check_file.result (rw c.in_ok-problem.ensures.shelf.same at c.check_file.ensures.ends)
