use Rattle.std.proofs.Common.{◌≡◌, ℕ, ◌≤◌, ◌+◌, ◌*◌, ◌^◌, ◌+ℤ◌, ◌*ℤ◌, drop, unsigned_abs}
use Rattle.checked_fraction.specs.Terms.{num}
use Rattle.key_rows.specs.Names.{path_uses}
use Rattle.key_rows.proofs.rest.shift.Given as goal

-- what is left of the path makes the whole
abbrev pub invariant-loop-link : goal.invariant-loop-link
invariant-loop-link l = record {
  each : (k : ℕ) → num l.rest k +ℤ l.by *ℤ path_uses (drop l.link-index l.path) k ≡ num l.initial.rest k +ℤ l.by *ℤ path_uses l.path k;
  bound : (k : ℕ) → unsigned_abs (num l.rest k) ≤ 2 ^ 101 + l.link-index * 2 ^ 62;
  top : (k : ℕ) → unsigned_abs (num l.rest k) ≤ unsigned_abs (num l.initial.rest k) + l.link-index * 2 ^ 62;
}
