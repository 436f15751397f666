use Rattle.std.proofs.Common.{IfSome}
use Rattle.tree_boxes.specs.Searches.{aimed}
use Rattle.tree_search.specs.inner.Choosing.{IsTriable}
use Rattle.tree_search.proofs.choice.best_tried.Given as goal

-- the best so far may be tried
abbrev pub invariant-loop-i : goal.invariant-loop-i
invariant-loop-i l = IfSome l.best (IsTriable (aimed l.aim).links l.aim.plan.now.cost l.boxed)
