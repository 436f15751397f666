use Rattle.std.proofs.Common.{List, IfOk, IfSome, length, subst, ◌∙◌}
use Rattle.line_maker.specs.Terms.{IsSolutionOf}
use Rattle.plan_terms.specs.Terms.{Link}
use Rattle.line_check.specs.declared.tested_lines.Tested.{Tested}
use Rattle.tree_boxes.proofs.known.Known.solved.Goals as goal

pub returns : goal.returns
returns c =
    subst (λ (ls : List Link). IfOk c.solved.result (λ o. IfSome o (IsSolutionOf ls (length c.args.self.now.tested) c.args.boxed.now))) (c.items-links.ensures ∙ c.links.ensures)
    (subst (λ (tested : List Tested). IfOk c.solved.result (λ o. IfSome o (IsSolutionOf c.items-links.result.now (length tested) c.args.boxed.now))) c.items.ensures c.solved.ensures.solution)
