use Rattle.std.proofs.Common.{◌∙◌, ap, sum_by}
use Rattle.metric_cut.{specs.inner.Rights.part_of, proofs.Sides.sum_is_right}
use Rattle.metric_cut.proofs.cut.Cut.right.Goals as goal

pub returns-clause-right : goal.returns-clause-right
returns-clause-right c = λ g cut.
    sum_is_right _ c.args.self.now.lengths _ c.args.self.now.table c.args.demands.now c.right_side.result cut.distances c.requires.each
    (c.right_side.ensures.value ∙ ap (λ ds. sum_by (part_of c.args.self.now.table) ds) c.items.ensures)
