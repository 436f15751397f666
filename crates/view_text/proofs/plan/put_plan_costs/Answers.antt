use Rattle.std.proofs.Common.{◌++◌, ap, subst, ◌∙◌}
use Rattle.view_cells.specs.Terms.{HasRows}
use Rattle.view_text.specs.CostCells.{cost_rows}
use Rattle.view_text.proofs.plan.put_plan_costs.Goals as goal

pub returns : goal.returns
returns c = (
  c.in_ok-costs.costs,
  record {
    whole = c.in_ok-whole.whole;
    is_whole = c.in_ok-whole.ensures;
    holds = c.requires.holds;
    shown = subst (λ places. HasRows (cost_rows places c.in_ok-whole.whole c.args.plan.now.quality c.args.proof) c.in_ok-costs.costs)
        c.places.ensures c.in_ok-costs.ensures;
  },
  c.in_ok-append.ensures.ok ∙ ap (λ b. c.args.text.now ++ b) c.items.ensures,
)
