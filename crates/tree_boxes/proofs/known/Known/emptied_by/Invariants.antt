use Rattle.std.proofs.Common.{ℕ, ◌<◌}
use Rattle.tree_check.specs.Terms.{EmptiesBox, names_in}
use Rattle.tree_boxes.proofs.known.Known.emptied_by.Given as goal

-- no earlier cut empties the box
abbrev pub invariant-loop-i : goal.invariant-loop-i
invariant-loop-i l = (k : ℕ) → k < l.i → EmptiesBox (names_in l.tests) l.tests.instance.now.net.now.links l.boxed k → ⊥
