use Rattle.text_kit.proofs.Lemmas.{on_ok}
use Rattle.plan_view.specs.Terms.{problem_case}
use Rattle.view_text.proofs.Views.{report}
use Rattle.view_text.proofs.view.put_view.Goals as goal

pub returns : goal.returns
returns c = on_ok _ (λ h. report c.args.network.now (problem_case c.args.problem.now) c.args.outcomes.now c.args.proof
    c.args.text.now c.put_heading.new.text c.put_body.new.text c.in_ok-put_heading.ensures h) c.put_body.ensures
