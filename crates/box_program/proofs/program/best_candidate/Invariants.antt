use Rattle.box_program.specs.inner.BoxPrograms.{FindsColumn}
use Rattle.box_program.proofs.program.best_candidate.Given as goal

-- the best column of the first ones
abbrev pub invariant-loop-at : goal.invariant-loop-at
invariant-loop-at l = FindsColumn l.columns l.duals l.at l.best
