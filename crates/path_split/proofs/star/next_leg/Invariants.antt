use Rattle.std.proofs.Common.{◌≡◌, ℕ, ◌-◌, ◌<◌, ◌≤◌, get_or, length}
use Rattle.path_split.specs.inner.Legs.{leg_at}
use Rattle.path_split.proofs.star.next_leg.Given as goal

-- no leg of the node before this place has flow left
abbrev pub invariant-loop-k : goal.invariant-loop-k
invariant-loop-k l = record {
  inside : l.k < length l.lefts;
  on : get_or l.places l.at.0 0 ≤ l.k;
  left : (j : ℕ) → j < length l.legs → (leg_at l.legs j).from.0 ≡ l.at.0 → 0 < get_or l.lefts j 0 → l.k ≤ j;
}

abbrev pub decreases-loop-k : goal.decreases-loop-k
decreases-loop-k l = length l.lefts - l.k
