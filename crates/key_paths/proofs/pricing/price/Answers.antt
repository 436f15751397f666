use Rattle.plan_terms.specs.Terms.{graph_of}
use Rattle.key_paths.proofs.Carried.{none_gain}
use Rattle.key_paths.proofs.pricing.price.Goals as goal

pub returns-in-None-clause-found : goal.returns-in-None-clause-found
returns-in-None-clause-found c =
    let task = c.args.task.now in
    none_gain (graph_of task.graph) task.demands.now c.args.keyed.now c.requires.links c.requires.demands (rw c.nums.ensures at c.in_default.ensures) (rw c.items.ensures at c.in_default-first_negative.ensures)
    (rw c.in-None.is at c.in_ok-c.ensures.found)
