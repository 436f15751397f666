use Rattle.std.proofs.Common.{◌≡◌, ℕ, ◌<◌, ◌≤◌, ◌^◌, length, unsigned_abs}
use Rattle.checked_fraction.specs.Terms.{num}
use Rattle.simplex_law.specs.Terms.{dot}
use Rattle.simplex_core.specs.Terms.{nums_at}
use Rattle.key_rows.specs.Names.{left_uses}
use Rattle.key_rows.proofs.keys.write_products.Given as goal

-- the products so far
abbrev pub invariant-loop-i : goal.invariant-loop-i
invariant-loop-i l = record {
  products : (i : ℕ) → i < l.i → num l.products i ≡ dot (length l.rows) (nums_at l.rows i) (left_uses l.name l.key);
  low : (i : ℕ) → i < l.i → unsigned_abs (num l.products i) ≤ 2 ^ 71;
}
