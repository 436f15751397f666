use Rattle.key_paths.proofs.finish.finish.Goals as goal

pub returns-in-Ok-Some : goal.returns-in-Ok-Some
returns-in-Ok-Some c = (rw c.in-Ok-Some.field-0-is at c.in-Ok-Some.ensures) c.names_of-basis.result c.names_of-basis.ensures

pub returns-in-Ok-None : goal.returns-in-Ok-None
returns-in-Ok-None c = (c.names_of-basis.ensures, rw c.in-Ok-None.field-0-is at c.in-Ok-None.ensures)
