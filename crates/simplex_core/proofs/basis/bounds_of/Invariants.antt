use Rattle.std.proofs.Common.{◌≡◌, length}
use Rattle.simplex_core.specs.inner.Shapes.{AtEach}
use Rattle.simplex_core.proofs.basis.bounds_of.Given as goal

-- the bounds so far
abbrev pub invariant-loop-i : goal.invariant-loop-i
invariant-loop-i g l = (length l.bounds ≡ l.i) × AtEach (λ i b. b ≡ g.C.Columns.bound l.cols i) l.bounds
