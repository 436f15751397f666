use Rattle.std.proofs.Common.{All}
use Rattle.tree_boxes.specs.Searches.{aimed}
use Rattle.tree_search.specs.inner.Choosing.{IsTriable}
use Rattle.tree_search.proofs.choice.choices.Given as goal

-- the choices of the amounts so far
abbrev pub invariant-loop-amount : goal.invariant-loop-amount
invariant-loop-amount l = All (λ s. IsTriable (aimed l.aim).links l.aim.plan.now.cost l.boxed s.choice) l.all
