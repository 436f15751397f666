use Rattle.std.proofs.Common.{◌≡◌, ◌∙◌, ℕ, List, ◌++◌, ap, subst, sym}
use Rattle.view_text.specs.Terms.{IsFirstBlock}
use Rattle.plan_view.specs.Terms.{problem_case}
use Rattle.people_plans.proofs.planned_answer.block_of.Goals as goal

pub returns : goal.returns
returns c =
    let adds = c.in_ok-put_first_block.ensures in
    let same : c.put_first_block.new.text ≡ adds.0 = adds.2 ∙ ap (λ (old : List ℕ). old ++ adds.0) c.new-text.ensures in
    subst (IsFirstBlock c.args.network.now (problem_case c.args.problem.now) c.args.outcomes.now c.args.cost) (sym same) adds.1
