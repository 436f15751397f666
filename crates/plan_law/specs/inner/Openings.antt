-- a beginning that is under way: the opening cuts of some states are taken, and some of one further state
use Rattle.std.specs.Prelude.{◌≡◌, ℕ, ◌<◌, ◌⊎◌, ◌++◌, List, All, AllPairs, Contains}
use Rattle.plan_terms.specs.Terms.{CutLine, Case}
use Rattle.plan_law.specs.WorkedLists.{HasCut, HasOpeningOf, IsOpeningCut, Lacks, OpensBefore}

-- The list is the snapshot's cuts, and the opening cuts that it lacks of the states below s, and of state s those with the lengths taken.
pub record IsOpenedTo (p : Case) (snapshot : List CutLine) (s : ℕ) (taken : List (List ℕ)) (cuts : List CutLine) : Type 0 where
  pub opened : List CutLine
  pub whole : cuts ≡ snapshot ++ opened
  pub opening : All (IsOpeningCut p) opened
  pub lacking : All (Lacks snapshot) opened
  pub ordered : AllPairs (OpensBefore p) opened
  pub before : (t : ℕ) → t < s → HasOpeningOf p cuts t
  pub here : All (λ ls. HasCut cuts s ls) taken
  pub reach : All (λ c. (c.state.0 < s) ⊎ ((c.state.0 ≡ s) × Contains taken c.lengths)) opened
