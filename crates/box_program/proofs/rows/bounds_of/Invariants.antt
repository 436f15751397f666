use Rattle.std.proofs.Common.{◌≡◌, ◌+◌, All, length}
use Rattle.box_program.specs.inner.BoxPrograms.{IsBoxBound}
use Rattle.box_program.proofs.rows.bounds_of.Given as goal

-- the bounds of the modules so far
abbrev pub invariant-loop-module : goal.invariant-loop-module
invariant-loop-module l = (length l.bounds ≡ l.module-index) × All IsBoxBound l.bounds

-- and of the greatest counts so far
abbrev pub invariant-loop : goal.invariant-loop
invariant-loop l = (length l.bounds ≡ length l.modules + l.index) × All IsBoxBound l.bounds
