use Rattle.std.proofs.Common.{codes}
use Rattle.text_kit.proofs.Lemmas.{on_ok}
use Rattle.view_cells.proofs.Lemmas.{appended_three}
use Rattle.view_text.{specs.CostCells.least_text, specs.PlanViews.states_line}
use Rattle.view_text.proofs.plan.put_accepted.Goals as goal

pub returns : goal.returns
returns c = on_ok c.append.result (λ q.
    appended_three c.args.text.now (states_line c.args.whole.now.states) (least_text c.args.places c.args.whole.now c.args.proof) (codes "\n")
    c.put_states.new.text c.put_least.new.text c.append.new.self c.in_ok-put_states.ensures c.in_ok-put_least.ensures q) c.append.ensures.ok
