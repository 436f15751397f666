-- cuts of a state: lengths that it keeps, with their distances, and their lines
use Rattle.std.specs.Prelude.{◌≡◌, ℕ, ◌^◌, ◌≤◌, ◌<◌, List, Option, None, Some, length}
use Rattle.plan_terms.specs.Terms.{CutLine, Demand, Graph, Joins, AreKept, AreZero, IsRight, Keeps}
use Rattle.short_paths.specs.DistanceTables.{AreAllDistances}
use Rattle.metric_cut.specs.declared.cut.Cut.{Cut}

-- a cut of the network in a listed state: lengths that the state keeps, and the distances along the surviving links
pub record IsCutOf (g : Graph) (cut : Cut) : Type 0 where
  pub state : g.state ≡ cut.state.0
  pub listed_state : g.state ≤ length g.listed
  pub kept : AreKept g cut.lengths
  pub distances : AreAllDistances (Joins g) cut.lengths (length g.nodes) cut.table

-- a cut of what the state keeps of lengths, and none where they are 0 on all surviving links
abbrev pub MayKeepCut : Graph → List ℕ → Option Cut → Type 0
MayKeepCut g lengths None = AreZero g lengths
MayKeepCut g lengths (Some cut) = Keeps g lengths cut.lengths × IsCutOf g cut

-- state and lengths of the cut, with the right side at the demands
pub record IsLineAt (demands : List Demand) (cut : Cut) (line : CutLine) : Type 0 where
  pub state : line.state ≡ cut.state
  pub lengths : line.lengths ≡ cut.lengths
  pub right : (g : Graph) → IsCutOf g cut → IsRight (Joins g) cut.lengths demands line.right
  pub low : line.right < 2 ^ 84
