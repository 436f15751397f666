use Rattle.std.proofs.Common.{◌≡◌, length}
use Rattle.checked_fraction.specs.Terms.{num}
use Rattle.simplex_core.specs.Terms.{AtEach}
use Rattle.key_paths.proofs.start.whole_rest.Given as goal

-- the numbers so far
abbrev pub invariant-loop-k : goal.invariant-loop-k
invariant-loop-k l = (length l.rest ≡ l.k) × AtEach (λ k x. x ≡ num l.bounds k) l.rest
