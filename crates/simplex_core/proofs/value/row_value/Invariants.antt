use Rattle.std.proofs.Common.{◌≡◌, ◌<◌, ◌≤◌, ◌^◌, unsigned_abs}
use Rattle.checked_fraction.specs.Terms.{num}
use Rattle.simplex_law.specs.Terms.{dot}
use Rattle.simplex_core.specs.inner.Values.{sizes_of}
use Rattle.simplex_core.proofs.value.row_value.Given as goal

-- both sums so far
abbrev pub invariant-loop-k : goal.invariant-loop-k
invariant-loop-k l = record {
  sizes : l.sums.sizes ≡ sizes_of l.k (num l.nums) (num l.bounds);
  low : l.sums.sizes < 2 ^ 126;
  value : l.sums.value ≡ dot l.k (num l.nums) (num l.bounds);
  bound : unsigned_abs l.sums.value ≤ l.sums.sizes;
}
