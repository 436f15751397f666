use Rattle.std.proofs.Common.{◌≡◌, ℕ, ◌+◌, ◌<◌, ◌≤◌, ◌^◌, All, length, slice_index, take}
use Rattle.line_check.{specs.CoverWeights.IsLeastWeight, specs.inner.Rows.AreCoverBounds}
use Rattle.line_check.proofs.table.least_weights.Given as goal

-- the least weights of covers by the first kinds
abbrev pub invariant-loop-k : goal.invariant-loop-k
invariant-loop-k l = record {
  many : length l.least ≡ l.k;
  least : (j : ℕ) → j < l.k → IsLeastWeight (take (j + 1) l.sizes) (take (j + 1) l.weights) l.need (slice_index l.least j);
  count : length l.row ≡ l.need + 1;
  small : All (λ n. n ≤ 2 ^ 45) l.row;
  bounds : AreCoverBounds (take l.k l.sizes) (take l.k l.weights) l.row;
}
