use Rattle.std.proofs.Common.{◌≡◌, ◌≤◌, ◌*◌, ◌^◌, unsigned_abs}
use Rattle.checked_fraction.specs.Terms.{num, total}
use Rattle.simplex_law.specs.Terms.{dot}
use Rattle.key_rows.proofs.values.worth.Given as goal

-- the sum of the products so far
abbrev pub invariant-loop-k : goal.invariant-loop-k
invariant-loop-k l = record {
  sum : total l.sum ≡ dot l.k (num l.nums) (num l.rest);
  high : unsigned_abs l.sum.high ≤ l.k * 2 ^ 77;
  low : l.sum.low ≤ l.k * 2 ^ 62;
}
