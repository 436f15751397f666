use Rattle.std.proofs.Common.{◌∙◌}
use Rattle.net_core.proofs.Library.{All-push, All-same}
use Rattle.tree_boxes.specs.Searches.{aimed}
use Rattle.tree_search.{specs.inner.Choosing.IsTriable, specs.declared.choice.Scored.Scored, proofs.choice.choices.Goals.{in-Some+in_ok-push, in_default}}
use Rattle.tree_search.proofs.choice.choices.Goals as goal

pub loop-amount-preserved : goal.loop-amount-preserved
loop-amount-preserved c =
    let may : Scored → Type 0 = λ s. IsTriable (aimed c.args.aim.now).links c.args.aim.now.plan.now.cost c.args.boxed.now s.choice in
    elim c.match-choice_of.branch [
      | in-Some+in_ok-push w ↦ All-same may _ _ (w.all-is ∙ w.in_ok-push.ensures.ok) (All-push may c.loop-amount.all w.in-Some.next c.loop-amount.invariant w.in-Some.ensures)
      | in_default w ↦ All-same may _ _ w.all-is c.loop-amount.invariant
    ]
