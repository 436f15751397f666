use Rattle.std.proofs.Common.{◌≡◌, ◌≤◌, ◌<◌, ℕ, All, Some, get_or, length, slice_get}
use Rattle.plan_terms.specs.Terms.{Link, IsPriceLength}
use Rattle.module_prices.proofs.lengths.lengths_of.Given as goal

-- the links so far have their lengths
abbrev pub invariant-loop-e : goal.invariant-loop-e
invariant-loop-e l = record {
  count : length l.lengths ≡ l.e;
  each : (e : ℕ) (k : Link) → e < l.e → slice_get l.links e ≡ Some k → IsPriceLength l.dearest k.modules (get_or l.lengths e 0);
  small : All (λ n. n ≤ 16) l.lengths;
}
