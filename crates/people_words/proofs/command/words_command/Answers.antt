use Rattle.std.proofs.Common.{map, string_bytes}
use Rattle.people_words.{specs.inner.Causes.{given_names, given_options}, proofs.GivenCommands.parts_given}
use Rattle.people_words.proofs.command.words_command.Goals as goal

pub returns-in-Ok-Some : goal.returns-in-Ok-Some
returns-in-Ok-Some c =
    let g = c.in-Ok-Some.given in
    let read = rw c.in-Ok-Some.field-0-is at c.in-Ok-Some.ensures in
    parts_given (map string_bytes c.args.words.now) (given_names g) (given_options g) c.parts_command.result read.0 read.1
    (rw (c.items.ensures, c.items-in-Ok-Some.ensures) at c.parts_command.ensures)
