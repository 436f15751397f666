use Rattle.std.proofs.Common.{refl}
use Rattle.key_rows.proofs.ratio_test.better_of.Goals as goal

pub better_row-requires-clause-inside_best : goal.better_row-requires-clause-inside_best
better_row-requires-clause-inside_best c = (c.requires.best c.in-Some.best c.in-Some.is).0

pub better_row-requires-clause-best : goal.better_row-requires-clause-best
better_row-requires-clause-best c = (c.requires.best c.in-Some.best c.in-Some.is).1

pub returns-in-Some : goal.returns-in-Some
returns-in-Some c = rw c.in-Some.is c.better_row.ensures.one

pub returns-in-None : goal.returns-in-None
returns-in-None c = rw c.in-None.is refl
