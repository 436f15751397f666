-- cuts between a set of nodes and the others
use Rattle.std.specs.Prelude.{◌≡◌, ℕ, ◌<◌, Bool, List, All, if◌then◌else◌, slice_index}
use Rattle.master_law.specs.Terms.{IsSameCut}
use Rattle.plan_terms.specs.Terms.{Case, CutLine, Graph, IsCut, Link, Survives, graph_in}

-- 1 where a link leads from a set of nodes to the others, else 0
abbrev pub boundary_of : (ℕ → Bool) → Link → ℕ
boundary_of inside link = if inside link.a.0 then (if inside link.b.0 then 0 else 1) else (if inside link.b.0 then 1 else 0)

-- lengths are 1 on the surviving links between a set of nodes and the others, and 0 on the other surviving ones
pub record PartsNodes (g : Graph) (lengths : List ℕ) : Type 0 where
  pub inside : ℕ → Bool
  pub each : (e : ℕ) (s : Survives g e) → slice_index lengths e ≡ boundary_of inside s.link

-- the cut between a set of nodes and the others in a state, for which some demand asks
pub record IsSetCut (p : Case) (cut : CutLine) : Type 0 where
  pub is_cut : IsCut p cut
  pub asks : 0 < cut.right
  pub parts : PartsNodes (graph_in p cut.state.0) cut.lengths

-- a cut has another state or other lengths than each of these
abbrev pub IsNewTo : List CutLine → CutLine → Type 0
IsNewTo cuts cut = All (λ c. IsSameCut c cut → ⊥) cuts
