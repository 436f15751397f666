use Rattle.text_kit.proofs.Lemmas.{on_ok}
use Rattle.plan_view.specs.Terms.{problem_case}
use Rattle.view_state.proofs.StateRows.{plan_shown}
use Rattle.view_state.proofs.outcomes.put_plan_state.Goals as goal

pub returns : goal.returns
returns c = on_ok _ (λ h. plan_shown (problem_case c.args.problem.now) c.args.state c.args.caller c.args.serial c.args.plan.now
    c.args.text.now c.put_line.new.text c.put_planned.new.text c.in_ok-put_line.ensures h) c.put_planned.ensures
