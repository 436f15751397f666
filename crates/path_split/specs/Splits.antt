-- the split of flows on arcs into flows along paths (flow decomposition: Ahuja, Magnanti and Orlin, Network Flows, 1993)
use Rattle.std.specs.Prelude.{◌≡◌, ℕ, ◌≤◌, ◌<◌, ◌==◌, if◌then◌else◌, List, Some, All, length, slice_get, sum_by}
use Rattle.plan_terms.specs.Terms.{Link, HasEnds, names_link, IsPath}
use Rattle.path_split.{specs.declared.arc.Arc.Arc, specs.declared.arc.PathFlow.PathFlow}

-- nodes x and y are the ends of link e, in either order
pub record AreEnds (links : List Link) (e x y : ℕ) : Type 0 where
  pub link : Link
  pub at : slice_get links e ≡ Some link
  pub ends : HasEnds link x y

-- what the arcs on link e sum to, in both directions together
abbrev pub arc_load : List Arc → ℕ → ℕ
arc_load arcs e = sum_by (λ a. (if a.link.0 == e then a.num else 0)) arcs

-- what the path flows over link e sum to
abbrev pub path_load : List PathFlow → ℕ → ℕ
path_load flows e = sum_by (λ f. (if names_link e f.path then f.num else 0)) flows

-- Path flows are a split of arcs for a need: positive flows along paths from `from` to `to`, which have no node twice, that sum to
-- the need, on each link to at most the arcs on it, and are at most as many as the arcs.
pub record IsFlowSplit (links : List Link) (arcs : List Arc) (from to need : ℕ) (flows : List PathFlow) : Type 0 where
  pub paths : All (λ f. IsPath (AreEnds links) from to f.path) flows
  pub positive : All (λ f. 0 < f.num) flows
  pub met : sum_by (λ f. f.num) flows ≡ need
  pub within : (e : ℕ) → path_load flows e ≤ arc_load arcs e
  pub few : length flows ≤ length arcs
