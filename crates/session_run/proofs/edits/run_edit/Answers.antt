use Rattle.session_run.proofs.Turns.{edit_ends}
use Rattle.session_run.proofs.edits.run_edit.Goals as goal

pub returns-clause-edit : goal.returns-clause-edit
returns-clause-edit g c =
    edit_ends c.args.edit c.args.caller.now c.edit-answer.new.self c.edit-answer.result c.done_by.result c.edit-answer.ensures.turn c.done_by.ensures
