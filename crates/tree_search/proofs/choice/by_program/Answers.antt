use Rattle.std.proofs.Common.{All, subst, sym}
use Rattle.net_core.proofs.Library.{All-permutation}
use Rattle.tree_boxes.specs.Searches.{aimed}
use Rattle.tree_search.{specs.inner.Choosing.IsTriable, specs.declared.choice.Scored.Scored}
use Rattle.tree_search.proofs.choice.by_program.Goals as goal

pub best_tried-requires-clause-all : goal.best_tried-requires-clause-all
best_tried-requires-clause-all c =
    let may : Scored → Type 0 = λ s. IsTriable (aimed c.args.aim.now).links c.args.aim.now.plan.now.cost c.args.boxed.now s.choice in
    subst (All may) (sym c.items.ensures) (All-permutation may c.in_ok-found.found c.in_ok-all.all c.in_ok-all.ensures c.in_ok-found.ensures)
