use Rattle.std.proofs.Common.{◌≡◌}
use Rattle.checked_fraction.specs.Terms.{num}
use Rattle.simplex_law.specs.Terms.{int_sum}
use Rattle.row_cuts.specs.inner.Tests.{link_at}
use Rattle.row_cuts.proofs.sums.along.Given as goal

-- the sum so far
abbrev pub invariant-loop-i : goal.invariant-loop-i
invariant-loop-i l = l.sum ≡ int_sum l.i (λ i. num l.nums (link_at l.path i))
