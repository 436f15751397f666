use Rattle.std.proofs.Common.{subst, sym}
use Rattle.plan_terms.specs.Terms.{graph_of}
use Rattle.key_rows.specs.Terms.{IsShortPath}
use Rattle.key_paths.proofs.Carried.{carried_short}
use Rattle.key_paths.proofs.path_offers.still_gains.Goals as goal

pub gains-requires-clause-path : goal.gains-requires-clause-path
gains-requires-clause-path c =
    let task = c.args.task.now in
    rw c.items.ensures
    (subst (λ n. IsShortPath n c.args.c.now.path) (sym c.requires.links) (carried_short (graph_of task.graph) task.demands.now c.args.c.now.demand c.args.c.now.path task.graph.net.now.checked task.belong c.requires.carrier))
