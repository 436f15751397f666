use Rattle.std.proofs.Common.{◌≡◌, length}
use Rattle.short_paths.specs.inner.ForwardStars.{AreStarts}
use Rattle.short_paths.proofs.forward_star.starts_of.Given as goal

abbrev pub invariant-loop-x : goal.invariant-loop-x
invariant-loop-x l = (length l.starts ≡ l.x) × AreStarts l.arcs l.starts
