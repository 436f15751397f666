use Rattle.std.proofs.Common.{◌≡◌, ℕ, ◌<◌, ◌≤◌, ◌-ℤ◌, ◌*ℤ◌}
use Rattle.checked_fraction.specs.Terms.{num}
use Rattle.key_rows.specs.KeyRows.{amounts}
use Rattle.key_rows.proofs.values.lower_values.Given as goal

-- the values so far are lowered
abbrev pub invariant-loop-i : goal.invariant-loop-i
invariant-loop-i l = record {
  done : (j : ℕ) → j < l.i → amounts l.values j ≡ amounts l.initial.values j -ℤ num l.products j *ℤ l.bound;
  others : (j : ℕ) → l.i ≤ j → amounts l.values j ≡ amounts l.initial.values j;
}
