-- what of the demands goes other ways in a state than without failures
use Rattle.std.{specs.Prelude.{ℕ, ◌+◌, ◌-◌, ◌*◌, ◌==◌, ◌&&◌, if◌then◌else◌, Bool, List, [], ◌∷◌, sum_by}, specs.Cmp.Lexicographic.pointwise, specs.List.list_any}
use Rattle.plan_terms.specs.Terms.{Flow, Routing}

-- both flows are of one demand and follow one path
abbrev pub goes_as : Flow → Flow → Bool
goes_as f g = (f.demand == g.demand) && pointwise (λ x y. x.0 == y.0) f.path g.path

-- what flows bring of the demand of f along its path
abbrev pub brought : List Flow → Flow → ℕ
brought flows f = sum_by (λ g. (if goes_as f g then g.num else 0)) flows

-- what the routing brings of the demand of f along its path beyond what the normal one does, over both denominators
abbrev pub brought_beyond : Routing → Routing → Flow → ℕ
brought_beyond normal routing f = brought routing.flows f * normal.den - brought normal.flows f * routing.den

-- The rerouted amount of flows, over both denominators: the sum, over each demand and each path that it takes, of what goes there beyond what
-- goes there without failures. Each demand and path counts once, at the last of its flows.
abbrev pub rerouted : Routing → Routing → List Flow → ℕ
rerouted normal routing [] = 0
rerouted normal routing (f ∷ flows) = (if list_any (λ g. goes_as f g) flows then 0 else brought_beyond normal routing f) + rerouted normal routing flows
