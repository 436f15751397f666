use Rattle.text_kit.proofs.Lemmas.{on_ok}
use Rattle.plan_view.specs.Terms.{problem_case}
use Rattle.view_state.proofs.StateTexts.{state_view}
use Rattle.view_state.proofs.outcomes.put_state_view.Goals as goal

pub returns : goal.returns
returns c = on_ok _ (λ h. state_view c.args.network.now (problem_case c.args.problem.now) c.args.state c.args.outcomes.now
    c.args.text.now c.put_heading.new.text c.put_each.new.text c.in_ok-put_heading.ensures h) c.put_each.ensures
