use Rattle.std.proofs.Common.{◌≡◌, slice_index, pos}
use Rattle.checked_fraction.specs.Terms.{num}
use Rattle.simplex_law.specs.Terms.{dot}
use Rattle.length_master.proofs.tested_basis.length_product.Given as goal

-- the sum so far
abbrev pub invariant-loop-e : goal.invariant-loop-e
invariant-loop-e l = l.sum ≡ dot l.e (num l.nums) (λ k. pos (slice_index l.lengths k))
