use Rattle.master_bound.proofs.Networks.{network_modules, task_packing}
use Rattle.master_bound.proofs.bound.solved.Goals as goal

pub optimum_of-requires-clause-packing : goal.optimum_of-requires-clause-packing
optimum_of-requires-clause-packing c =
    let task = c.args.task.now in
    task_packing task.net.now.links task.pairs.now task.cuts.now (network_modules task.net.now) c.requires.units c.requires.lengths c.requires.narrow task.costs c.requires.different

pub answer_of-requires-clause-packing : goal.answer_of-requires-clause-packing
answer_of-requires-clause-packing c =
    let task = c.args.task.now in
    task_packing task.net.now.links task.pairs.now task.cuts.now (network_modules task.net.now) c.requires.units c.requires.lengths c.requires.narrow task.costs c.requires.different
