use Rattle.people_words.specs.AskedCommands.{people_command}
use Rattle.people_commands.proofs.Causing.{people_ends}
use Rattle.people_commands.proofs.run.answer_words.Goals as goal

pub returns-in-Some-clause-ends : goal.returns-in-Some-clause-ends
returns-in-Some-clause-ends g c =
    people_ends c.args.words.now (g.S.Shelf.files c.args.shelf.now) (people_command c.in-Some.command) c.answer_command.result
    (rw c.in-Some.is at c.in_ok-command.ensures) c.answer_command.ensures.ends
