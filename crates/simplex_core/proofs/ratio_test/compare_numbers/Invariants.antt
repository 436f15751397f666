use Rattle.std.proofs.Common.{◌≡◌, ℕ, ◌<◌, ◌*ℤ◌}
use Rattle.checked_fraction.specs.Terms.{num}
use Rattle.simplex_core.proofs.ratio_test.compare_numbers.Given as goal

-- all before are equal
abbrev pub invariant-loop-k : goal.invariant-loop-k
invariant-loop-k l = (k : ℕ) → k < l.k → num l.first k *ℤ l.q ≡ num l.second k *ℤ l.p
