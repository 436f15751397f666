use Rattle.text_kit.proofs.Lemmas.{on_ok}
use Rattle.plan_view.specs.Terms.{problem_case}
use Rattle.view_text.proofs.Views.{first_block}
use Rattle.view_text.proofs.view.put_first_block.Goals as goal

pub returns : goal.returns
returns c = on_ok _ (λ h. first_block c.args.network.now (problem_case c.args.problem.now) c.args.outcomes.now c.args.proof
    c.args.text.now c.put_heading.new.text c.put_brief.new.text c.in_ok-put_heading.ensures h) c.put_brief.ensures
