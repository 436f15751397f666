use Rattle.std.{proofs.Common.take, specs.List.AllZip}
use Rattle.box_program.specs.inner.BoxRows.{IsAmountAt}
use Rattle.box_program.proofs.solution.amounts_of.Given as goal

-- the amounts of the modules so far
abbrev pub invariant-loop-row : goal.invariant-loop-row
invariant-loop-row l = AllZip (IsAmountAt l.den) (take l.row l.modules) l.amounts
