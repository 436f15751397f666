-- numbers that were found, for an equal count
use Rattle.std.proofs.Common.{◌≡◌, ℕ, List, Option, Some, IfSome, subst, ℤ}
use Rattle.row_cuts.specs.inner.Tests.{AreLowestNumbers}

pub lowest_some : (n m : ℕ) (nums : List ℤ) (o : Option (List ℕ)) (lengths : List ℕ) → n ≡ m → IfSome o (AreLowestNumbers n nums) → o ≡ Some lengths → AreLowestNumbers m nums lengths
lowest_some n m nums o lengths count found is = subst (λ k. AreLowestNumbers k nums lengths) count (subst (λ (p : Option (List ℕ)). IfSome p (AreLowestNumbers n nums)) is found)
