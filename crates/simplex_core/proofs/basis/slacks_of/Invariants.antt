use Rattle.std.proofs.Common.{◌≡◌, length}
use Rattle.simplex_core.specs.inner.Shapes.{AtEach}
use Rattle.simplex_core.proofs.basis.slacks_of.Given as goal

-- the names so far
abbrev pub invariant-loop-i : goal.invariant-loop-i
invariant-loop-i g l = (length l.names ≡ l.i) × AtEach (λ i name. name ≡ g.C.Columns.slack l.cols i) l.names
