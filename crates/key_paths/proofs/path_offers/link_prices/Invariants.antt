use Rattle.std.specs.Prelude.{ℕ, pos, All, length, slice_index, ◌≡◌, ◌<◌, ◌^◌}
use Rattle.checked_fraction.specs.Terms.{num}
use Rattle.key_paths.proofs.path_offers.link_prices.Given as goal

-- the prices so far
abbrev pub invariant-loop-e : goal.invariant-loop-e
invariant-loop-e l = record {
  count : length l.prices ≡ l.e;
  same : (k : ℕ) → k < l.e → num l.nums k ≡ pos (slice_index l.prices k);
  low : All (λ p. p < 2 ^ 62) l.prices;
}
