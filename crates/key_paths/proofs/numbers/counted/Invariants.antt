use Rattle.std.proofs.Common.{◌≡◌, length}
use Rattle.simplex_core.specs.Terms.{AtEach}
use Rattle.key_paths.proofs.numbers.counted.Given as goal

-- the numbers so far
abbrev pub invariant-loop-k : goal.invariant-loop-k
invariant-loop-k l = (length l.numbers ≡ l.k) × AtEach (λ i k. k ≡ i) l.numbers
