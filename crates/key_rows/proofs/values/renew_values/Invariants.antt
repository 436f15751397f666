use Rattle.std.proofs.Common.{◌≡◌, ℕ, ◌<◌, ◌≤◌, length}
use Rattle.checked_fraction.specs.Terms.{num}
use Rattle.simplex_law.specs.Terms.{dot}
use Rattle.simplex_core.specs.Terms.{nums_at}
use Rattle.key_rows.specs.KeyRows.{amounts}
use Rattle.key_rows.proofs.values.renew_values.Given as goal

-- the values so far are renewed
abbrev pub invariant-loop-i : goal.invariant-loop-i
invariant-loop-i l = record {
  done : (j : ℕ) → j < l.i → amounts l.values j ≡ dot (length l.rest) (nums_at l.rows j) (num l.rest);
  others : (j : ℕ) → l.i ≤ j → amounts l.values j ≡ amounts l.initial.values j;
}
