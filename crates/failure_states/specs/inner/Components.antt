-- the connected components of a graph, as labels of its nodes: nodes have one label where links lead between them
use Rattle.std.specs.Prelude.{◌≡◌, ◌≢◌, ℕ, ◌<◌, List, [], Some, length, slice_get, slice_index}
use Rattle.plan_terms.specs.Terms.{Demand, Walk}

-- links lead from a to b, perhaps along a node twice
abbrev pub AreConnected : (ℕ → ℕ → ℕ → Type 0) → ℕ → ℕ → Type 0
AreConnected joins a b = (d : ℕ) × Walk joins [] a b d

-- the components of n nodes by the first links: a link joins nodes of one label, and links lead between any two nodes of one label
pub record AreComponents (joins : ℕ → ℕ → ℕ → Type 0) (n links : ℕ) (labels : List ℕ) : Type 0 where
  pub size : length labels ≡ n
  pub closed : (e x y : ℕ) → e < links → joins e x y → slice_index labels x ≡ slice_index labels y
  pub sound : (x y : ℕ) → x < n → y < n → slice_index labels x ≡ slice_index labels y → AreConnected joins x y

-- the nodes that had the label of b have now that of a, and the others theirs
pub record IsMerged (a b : ℕ) (old new : List ℕ) : Type 0 where
  pub size : length new ≡ length old
  pub moved : (k : ℕ) → k < length old → slice_index old k ≡ slice_index old b → slice_index new k ≡ slice_index old a
  pub stayed : (k : ℕ) → k < length old → slice_index old k ≢ slice_index old b → slice_index new k ≡ slice_index old k

-- both ends of the demand are among n nodes
abbrev pub HasEndsBelow : ℕ → Demand → Type 0
HasEndsBelow n d = (d.from.0 < n) × (d.to.0 < n)

-- demand k has a need and ends of different labels
pub record IsSplit (labels : List ℕ) (demands : List Demand) (k : ℕ) : Type 0 where
  pub demand : Demand
  pub at : slice_get demands k ≡ Some demand
  pub needed : 0 < demand.need
  pub differ : slice_index labels demand.from.0 ≢ slice_index labels demand.to.0

-- k is the least number of which this holds
pub record IsFirst (holds : ℕ → Type 0) (k : ℕ) : Type 0 where
  pub here : holds k
  pub least : (j : ℕ) → j < k → holds j → ⊥
