use Rattle.text_kit.proofs.Lemmas.{on_ok}
use Rattle.view_cells.proofs.Lemmas.{appended}
use Rattle.plan_progress.specs.ProgressLines.{split_costs, split_rest}
use Rattle.plan_progress.proofs.lines.put_split_gap.Goals as goal

pub returns : goal.returns
returns c = on_ok c.put_split_rest.result (λ q.
    appended c.args.text.now (split_costs c.args.places c.args.figures.now) (split_rest c.args.figures.now c.args.gap)
    c.put_split_costs.new.text c.put_split_rest.new.text c.in_ok-put_split_costs.ensures q) c.put_split_rest.ensures
