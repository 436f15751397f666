use Rattle.std.proofs.Common.{◌≡◌, map, take}
use Rattle.worked_networks.proofs.state_rows.links_at.Given as goal

-- the links so far
abbrev pub invariant-loop-e : goal.invariant-loop-e
invariant-loop-e l = map (λ e. e.0) l.links ≡ take l.e-index l.places
