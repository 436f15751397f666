use Rattle.plan_terms.specs.Terms.{case_of}
use Rattle.plan_view.proofs.RowLists.{states_more}
use Rattle.plan_view.proofs.states.state_rows.Goals as goal

pub loop-state-preserved : goal.loop-state-preserved
loop-state-preserved c = rw c.in_ok-push.ensures.ok (states_more (case_of c.args.instance.now) c.args.plan.now _ _ _ c.loop-state.invariant c.in_ok-row.ensures)
