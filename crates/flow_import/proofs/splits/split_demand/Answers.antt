use Rattle.std.proofs.Common.{Err, length, ap, refl, ◌∙◌}
use Rattle.path_split.specs.Balances.{IsFirstUnbalanced}
use Rattle.flow_import.{specs.Imports.demand_arcs, proofs.Splitting.{arcs_few, arcs_known, unbalanced_at}}
use Rattle.flow_import.proofs.splits.split_demand.Goals as goal

pub split_flow-requires-clause-arcs : goal.split_flow-requires-clause-arcs
split_flow-requires-clause-arcs c = rw c.in_ok-arcs.ensures (arcs_known c.args.instance.now.net.now.links c.args.instance.now.demands.now c.args.flows.now c.requires.flows c.args.demand)

pub split_flow-requires-clause-few : goal.split_flow-requires-clause-few
split_flow-requires-clause-few c = rw c.in_ok-arcs.ensures (arcs_few c.args.instance.now.net.now.links c.args.instance.now.demands.now c.args.flows.now c.requires.flows c.args.demand)

pub returns-in-Err-Unbalanced-clause-fault : goal.returns-in-Err-Unbalanced-clause-fault
returns-in-Err-Unbalanced-clause-fault c =
    let node = c.in-Err-Unbalanced.node in
    let first = rw c.in_ok-arcs.ensures at c.split_flow.ensures.unbalanced in (
      refl,
      refl,
      unbalanced_at c.split_flow.result node
          (λ n. IsFirstUnbalanced (length c.args.instance.now.net.now.nodes) c.args.instance.now.net.now.links (demand_arcs c.args.demand c.args.flows.now) c.args.d.now.from.0 c.args.d.now.to.0 c.args.d.now.need n)
          (c.in-Err-Unbalanced.is ∙ ap Err c.in-Err-Unbalanced.field-0-is) first,
    )
