-- cuts of node sets while they are found
use Rattle.std.specs.Prelude.{◌≡◌, ℕ, ◌≤◌, Bool, List, All, AllPairs, length, map}
use Rattle.plan_terms.specs.Terms.{Case, CutLine, IsCut, Link, case_of, graph_in}
use Rattle.master_law.specs.Terms.{IsSameCut}
use Rattle.table_maker.{specs.SetCuts.{IsNewTo, IsSetCut, PartsNodes, boundary_of}, specs.declared.boundaries.Sets.Sets}

-- the cuts found are cuts of node sets, not too many, different ones, and none of the known ones
abbrev pub AreFound : Sets → Type 0
AreFound sets =
    All (IsSetCut (case_of sets.instance.now)) sets.cuts
    × (length sets.cuts ≤ 1024)
    × AllPairs (λ a b. IsSameCut a b → ⊥) sets.cuts
    × All (IsNewTo sets.known.now) sets.cuts

-- a search goes on in its network, beside the cuts that it knows
abbrev pub IsSameSearch : Sets → Sets → Type 0
IsSameSearch old new = (new.instance.now ≡ old.instance.now) × (new.known.now ≡ old.known.now)

-- 1 for each link between a set of nodes and the others, 0 for the rest
abbrev pub IsBoundary : List Link → List ℕ → Type 0
IsBoundary links lengths = (inside : ℕ → Bool) × (lengths ≡ map (boundary_of inside) links)

-- a cut between a set of nodes and the others in its state
pub record CutsNodes (p : Case) (cut : CutLine) : Type 0 where
  pub is_cut : IsCut p cut
  pub parts : PartsNodes (graph_in p cut.state.0) cut.lengths
