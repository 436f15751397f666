use Rattle.std.proofs.Common.{◌≡◌, map, take}
use Rattle.plan_terms.specs.Terms.{link_name}
use Rattle.view_cells.proofs.names.names_of_links.Given as goal

-- the names so far
abbrev pub invariant-loop-id : goal.invariant-loop-id
invariant-loop-id l = l.names ≡ map (link_name l.links) (take l.id-index l.ids)
