use Rattle.master_bound.proofs.Optima.{reached_optimum, value_evidence}
use Rattle.master_bound.proofs.bound.answer_of.Goals as goal

pub best_of-requires-clause-solution : goal.best_of-requires-clause-solution
best_of-requires-clause-solution c =
    let task = c.args.task.now in
    reached_optimum task.net.now.links task.pairs.now task.cuts.now c.args.optimum c.requires.solution

pub returns-in-None : goal.returns-in-None
returns-in-None c =
    let task = c.args.task.now in
    rw c.wide_value.ensures (
      task.pairs.now,
      c.requires.units,
      value_evidence task.net.now.links task.pairs.now task.cuts.now c.args.optimum c.requires.solution (rw c.in-None.is at c.in_ok-best.ensures),
    )
