use Rattle.std.proofs.Common.{◌≡◌, ℕ, ◌<◌}
use Rattle.checked_fraction.specs.Terms.{num, IsNarrow}
use Rattle.key_rows.specs.Names.{key_name, key_dual}
use Rattle.key_rows.proofs.keys.renew_duals.Given as goal

-- the prices so far
abbrev pub invariant-loop-d : goal.invariant-loop-d
invariant-loop-d l = record {
  duals : (d : ℕ) → d < l.d → num l.duals d ≡ key_dual l.links (num l.prices.nums) l.prices.den (key_name l.names l.places l.links d);
  narrow : (d : ℕ) → IsNarrow (num l.duals d);
}
