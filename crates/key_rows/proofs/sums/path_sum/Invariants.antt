use Rattle.std.proofs.Common.{◌≡◌, ◌≤◌, ◌*◌, ◌^◌, ◌+ℤ◌, unsigned_abs, drop}
use Rattle.checked_fraction.specs.Terms.{num}
use Rattle.key_rows.proofs.Paths.{path_total}
use Rattle.key_rows.proofs.sums.path_sum.Given as goal

-- the sum so far and what is left of the path make the whole
abbrev pub invariant-loop-link : goal.invariant-loop-link
invariant-loop-link l = record {
  sum : l.sum.value +ℤ path_total (num l.nums) (drop l.link-index l.path) ≡ path_total (num l.nums) l.path;
  bound : unsigned_abs l.sum.value ≤ l.link-index * 2 ^ 62;
}
