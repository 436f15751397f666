use Rattle.std.proofs.Common.{◌≡◌, ◌↔◌, ℕ, ◌<◌, count_by, get_or, length, not, true, false}
use Rattle.path_split.{specs.inner.Legs.IsStar, specs.inner.Trails.{Has, IsWalk, froms}}
use Rattle.path_split.proofs.walk.find_walk.Given as goal

-- a walk so far, of which the nodes that it leaves were seen
abbrev pub invariant-loop-at : goal.invariant-loop-at
invariant-loop-at l = record {
  star : IsStar l.legs l.lefts l.places;
  sizes : (length l.places ≡ length l.fn.places) × (length l.seen ≡ length l.fn.places);
  inside : l.at.0 < length l.places;
  walk : IsWalk l.legs l.lefts l.fn.from.0 l.to.0 l.trail l.at.0;
  marks : (x : ℕ) → (get_or l.seen x false ≡ true) ↔ Has x (froms l.legs l.trail);
}

-- how many nodes weren't seen
abbrev pub decreases-loop-at : goal.decreases-loop-at
decreases-loop-at l = count_by not l.seen
