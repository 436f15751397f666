use Rattle.std.proofs.Common.{◌≡◌, ◌+◌, length, sum_by}
use Rattle.path_split.{specs.inner.Legs.IsStar, specs.inner.Remains.{Remains, live}}
use Rattle.path_split.proofs.split.take_all.Given as goal

-- what is left is balanced for what is left of the need
abbrev pub invariant-loop-left : goal.invariant-loop-left
invariant-loop-left l = record {
  star : IsStar l.legs l.lefts l.places;
  sizes : (length l.places ≡ length l.fn.places) × (length l.seen ≡ length l.places);
  state : Remains l.legs l.from.0 l.to.0 l.lefts l.left l.flows;
  met : sum_by (λ f. f.num) l.flows + l.left ≡ l.need;
}

-- each turn takes some of the need, or empties a leg
abbrev pub decreases-loop-left : goal.decreases-loop-left
decreases-loop-left l = l.left + live l.lefts
