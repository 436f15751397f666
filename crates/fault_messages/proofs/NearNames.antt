-- the nearest name so far, name after name
use Rattle.std.proofs.Common.{◌≡◌, ◌⊎◌, inr, ℕ, ◌+◌, ◌/◌, ◌≤◌, ◌<◌, List, length, refl, arith}
use Rattle.fault_messages.specs.NearNames.{edits_to}

-- None of the first n names has fewer edits than `least`, which are those of the name at a place, the first of them; or there is none so far.
pub record IsNearestSoFar (name : List ℕ) (names : List (List ℕ)) (n place least : ℕ) : Type 0 where
  pub below : (k : ℕ) → k < n → least ≤ edits_to name names k
  pub found : ((place < n) × (least ≡ edits_to name names place) × (least ≤ length name / 3) × ((k : ℕ) → k < place → least < edits_to name names k))
      ⊎ ((place ≡ length names) × (least ≡ length name / 3 + 1))

pub none_so_far : (name : List ℕ) (names : List (List ℕ)) → IsNearestSoFar name names 0 (length names) (length name / 3 + 1)
none_so_far name names = record { below = λ k lt. absurd (omega (arith, lt)); found = inr (refl, refl) }
