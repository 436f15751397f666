-- where a path ends
use Rattle.std.specs.Prelude.{List, [], ◌∷◌}
use Rattle.plan_terms.specs.Terms.{Link, LinkId, NodeId}
use Rattle.plan_view.specs.FlowRows.{end_beyond}

-- the node that a path from n reaches
abbrev pub node_after : List Link → NodeId → List LinkId → NodeId
node_after links n [] = n
node_after links n (e ∷ es) = node_after links (end_beyond links n e) es
