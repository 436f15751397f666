use Rattle.std.proofs.Common.{◌≡◌, length}
use Rattle.simplex_core.{specs.inner.Commons.value_at, specs.inner.Shapes.AtEach}
use Rattle.simplex_core.proofs.optimum.values_over.Given as goal

-- the values so far
abbrev pub invariant-loop-i : goal.invariant-loop-i
invariant-loop-i l = (length l.values ≡ l.i) × AtEach (λ j v. v ≡ value_at l.fractions l.den j) l.values
