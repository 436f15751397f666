-- cuts of sets of nodes (the cut inequalities, which are metric inequalities of lengths 0 and 1)
use Rattle.std.specs.Prelude.{ℕ, List, Bool, not, cond, map}
use Rattle.plan_terms.specs.Terms.{Demand, Link, Caps, Graph, Joins, IsRight, Keeps, Violates}
use Rattle.metric_cut.{specs.Cuts.IsCutOf, specs.declared.cut.Cut.Cut}
use Rattle.route_law.specs.Terms.{ArePricedSomewhere}

-- a link crosses the boundary of a set of nodes: one of its ends is in the set, and the other isn't
abbrev pub crosses_boundary : (ℕ → Bool) → Link → Bool
crosses_boundary is_member l = cond (is_member l.a.0) (not (is_member l.b.0)) (is_member l.b.0)

-- 1 for each link that crosses the boundary, and 0 for the others
abbrev pub boundary_lengths : (ℕ → Bool) → List Link → List ℕ
boundary_lengths is_member links = map (λ l. cond (crosses_boundary is_member l) 1 0) links

-- the capacities violate the cut by its right side at the demands
abbrev pub IsViolatedAt : Graph → List Demand → Caps → Cut → Type 0
IsViolatedAt g demands caps cut = (right : ℕ) → IsRight (Joins g) cut.lengths demands right
    → Violates caps (record { state = cut.state; lengths = cut.lengths; right = right })

-- a violated cut of what the state keeps of the boundary of a set of nodes
pub record IsBoundaryCut (g : Graph) (demands : List Demand) (caps : Caps) (cut : Cut) : Type 0 where
  pub of : IsCutOf g cut
  pub is_member : ℕ → Bool
  pub priced : ArePricedSomewhere (boundary_lengths is_member g.links)
  pub keeps : Keeps g (boundary_lengths is_member g.links) cut.lengths
  pub violated : IsViolatedAt g demands caps cut
