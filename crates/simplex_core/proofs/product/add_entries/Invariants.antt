use Rattle.std.proofs.Common.{◌≡◌, ◌≤◌, ◌+◌, ◌*◌, ◌^◌, ◌+ℤ◌, unsigned_abs, drop}
use Rattle.checked_fraction.specs.Terms.{num, total}
use Rattle.simplex_core.proofs.Entries.{entries_dot}
use Rattle.simplex_core.proofs.product.add_entries.Given as goal

-- the sum so far and the products of what is left make the whole
abbrev pub invariant-loop-entry : goal.invariant-loop-entry
invariant-loop-entry l = record {
  sum : total l.sum +ℤ entries_dot (num l.nums) (drop l.entry-index l.entries) ≡ total l.initial.sum +ℤ entries_dot (num l.nums) l.entries;
  high : unsigned_abs l.sum.high ≤ (l.entry-index + 1) * 2 ^ 62;
  low : l.sum.low ≤ (l.entry-index + 1) * 2 ^ 62;
}
