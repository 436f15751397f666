use Rattle.std.proofs.Common.{◌≡◌, map, take}
use Rattle.plan_report.specs.Terms.{node_name}
use Rattle.view_cells.proofs.names.names_of_nodes.Given as goal

-- the names so far
abbrev pub invariant-loop-id : goal.invariant-loop-id
invariant-loop-id l = l.names ≡ map (node_name l.nodes) (take l.id-index l.ids)
