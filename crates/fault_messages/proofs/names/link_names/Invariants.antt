use Rattle.std.proofs.Common.{◌≡◌, map, take}
use Rattle.fault_messages.proofs.names.link_names.Given as goal

-- the names so far
abbrev pub invariant-loop-link : goal.invariant-loop-link
invariant-loop-link l = l.names ≡ map (λ x. x.name) (take l.link-index l.links)
