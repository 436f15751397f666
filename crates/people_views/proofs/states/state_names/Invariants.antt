use Rattle.std.proofs.Common.{◌≡◌, ◌∷◌, codes, map, take}
use Rattle.people_views.proofs.states.state_names.Given as goal

-- the names so far
abbrev pub invariant-loop-state : goal.invariant-loop-state
invariant-loop-state l = l.names ≡ codes "none" ∷ map (λ x. x.name) (take l.state-index l.listed)
