use Rattle.simplex_core.proofs.Ratios.{best_next}
use Rattle.simplex_core.proofs.ratio_test.next_best.Goals as goal

pub returns-clause-ok : goal.returns-clause-ok
returns-clause-ok c =
    best_next c.args.rows.now c.args.bounds.now c.args.products.now c.args.i c.args.best c.in_ok-other.other c.better.result
    c.requires.before c.in_ok-other.ensures.row c.in_ok-other.ensures.ok c.better.ensures
