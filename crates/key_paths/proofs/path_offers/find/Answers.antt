use Rattle.plan_terms.specs.Terms.{graph_of}
use Rattle.key_paths.proofs.Carried.{found_last}
use Rattle.key_paths.proofs.path_offers.find.Goals as goal

pub returns-clause-found : goal.returns-clause-found
returns-clause-found c =
    let task = c.args.task.now in
    found_last (graph_of task.graph) task.demands.now c.args.keyed.now c.pop.result c.in_ok-waiting.field-0 c.pop.new.waiting c.pop.ensures c.in_ok-waiting.ensures
