use Rattle.text_kit.proofs.Lemmas.{on_ok}
use Rattle.plan_view.specs.Terms.{problem_case}
use Rattle.view_text.proofs.Views.{session}
use Rattle.view_text.proofs.view.put_session.Goals as goal

pub returns : goal.returns
returns c = on_ok _ (λ h. session (problem_case c.args.problem.now) c.args.outcomes.now
    c.args.text.now c.put_table.new.text c.put_each.new.text c.in_ok-put_table.ensures h) c.put_each.ensures
