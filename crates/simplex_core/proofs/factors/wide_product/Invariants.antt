use Rattle.std.proofs.Common.{ℕ, ◌<◌}
use Rattle.checked_fraction.specs.Terms.{num}
use Rattle.simplex_core.specs.Turned.{IsNarrowOver}
use Rattle.simplex_core.proofs.factors.wide_product.Given as goal

-- the products so far are narrow when they are divided
abbrev pub invariant-loop-i : goal.invariant-loop-i
invariant-loop-i l = (k : ℕ) → k < l.i → IsNarrowOver (num l.products l.r) (num l.products k)
