use Rattle.std.proofs.Common.{◌≡◌, length, pos}
use Rattle.checked_fraction.specs.Terms.{num}
use Rattle.simplex_core.specs.Terms.{AtEach}
use Rattle.key_paths.proofs.start.start_values.Given as goal

-- the values so far
abbrev pub invariant-loop-k : goal.invariant-loop-k
invariant-loop-k l = (length l.values ≡ l.k) × AtEach (λ k x. pos x ≡ num l.bounds k) l.values
