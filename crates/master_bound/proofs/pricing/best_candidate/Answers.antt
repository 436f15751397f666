use Rattle.master_bound.proofs.Entering.{candidate_more}
use Rattle.master_bound.proofs.pricing.best_candidate.Goals as goal

pub loop-k-preserved : goal.loop-k-preserved
loop-k-preserved c =
    let task = c.args.program.now.task in
    candidate_more task.net.now.links task.pairs.now c.args.duals.now task.cuts.now c.loop-k.k c.loop-k.best c.candidate_at.result c.better-best.result c.loop-k.invariant c.candidate_at.ensures c.better-best.ensures.is c.better-best.ensures.none
