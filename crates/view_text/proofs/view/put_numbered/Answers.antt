use Rattle.text_kit.proofs.Lemmas.{on_ok}
use Rattle.plan_view.specs.Terms.{problem_case}
use Rattle.view_text.proofs.Views.{numbered}
use Rattle.view_text.proofs.view.put_numbered.Goals as goal

pub returns : goal.returns
returns c = on_ok _ (λ h. numbered (problem_case c.args.problem.now) c.args.outcome.now
    c.args.text.now c.put_numbers.new.text c.put_outcome.new.text c.in_ok-put_numbers.ensures h) c.put_outcome.ensures
