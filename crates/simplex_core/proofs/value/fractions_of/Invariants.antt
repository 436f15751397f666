use Rattle.std.proofs.Common.{◌≡◌, length}
use Rattle.checked_fraction.specs.Terms.{num}
use Rattle.simplex_law.specs.Terms.{dot}
use Rattle.simplex_core.{specs.inner.Commons.IsFractionOf, specs.Tables.{nums_at, den_at}, specs.inner.Shapes.AtEach}
use Rattle.simplex_core.proofs.value.fractions_of.Given as goal

-- the values so far
abbrev pub invariant-loop-i : goal.invariant-loop-i
invariant-loop-i l = (length l.fractions ≡ l.i) × AtEach (λ j f. IsFractionOf (dot (length l.rows) (nums_at l.rows j) (num l.bounds)) (den_at l.rows j) f) l.fractions
