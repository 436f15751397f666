use Rattle.std.proofs.Common.{◌≡◌, ◌++◌, codes, flat_map, take}
use Rattle.plan_terms.specs.Terms.{link_name}
use Rattle.view_state.proofs.heading.put_names.Given as goal

-- the names so far
abbrev pub invariant-loop-e : goal.invariant-loop-e
invariant-loop-e l = l.text ≡ l.fn.text ++ flat_map (λ e. codes " " ++ link_name l.links e) (take l.e-index l.failed)
