-- what a node that holds is to a walk, and what a walk has found
use Rattle.std.specs.Prelude.{◌≡◌, ℕ, ◌≤◌, ◌<◌, ◌⊎◌, ⊤, true, false, Option, None, Some, List, [], ◌∷◌, ◌++◌, All, min, take}
use Rattle.plan_terms.specs.Terms.{AreCounts, Case, Link, case_of}
use Rattle.line_check.{specs.Terms.IsLeastPlace, specs.declared.inequality.Inequality.Inequality}
use Rattle.tree_check.{specs.Boxes.{least_counts, whole_box}, specs.Proofs.{FailsAtNode, HasOpenValue, HoldsAtNode, HoldsNode, IsMissingAt, IsOpenAt, IsUnfounded}, specs.Testing.names_in, specs.Trees.{TreeBox, boxes_left, sides_of}, specs.declared.nodes.Held.Held, specs.declared.nodes.Held.TheVariants.{Settled, Open}, specs.declared.proof.Node.Node, specs.declared.proof.Proof.Proof, specs.declared.stop.Stop.Stop, specs.declared.stop.Stop.TheVariants.{Fault, NoMemory}, specs.declared.tests.Tests.Tests, specs.declared.walk.Found.Found}

-- ---- nodes

-- an open leaf of this value, or no open leaf
abbrev pub IsHeldAs : (ℕ → Inequality → Type 0) → List Link → TreeBox → Node → Held → Type 0
IsHeldAs names links box node Settled = (value : ℕ) → HasOpenValue names links box node value → ⊥
IsHeldAs names links box node (Open value) = HasOpenValue names links box node value

-- a node holds for a box
abbrev pub HoldsIn : Tests → TreeBox → Node → Type 0
HoldsIn t box node = HoldsNode (names_in t) (case_of t.instance.now) t.cost box node

-- what a node that holds is for a box, and none where it doesn't hold
abbrev pub IsHeldIn : Tests → TreeBox → Node → Option Held → Type 0
IsHeldIn t box node None = HoldsIn t box node → ⊥
IsHeldIn t box node (Some held) = HoldsIn t box node × IsHeldAs (names_in t) t.instance.now.net.now.links box node held

-- ---- a walk

-- a node takes the next box: it holds there, is so, and leaves its sides in the box's place
pub record TakesBox (names : ℕ → Inequality → Type 0) (p : Case) (cost : ℕ) (node : Node) (old new : List TreeBox) (held : Held) : Type 0 where
  pub box : TreeBox
  pub later : List TreeBox
  pub first : old ≡ box ∷ later
  pub left : new ≡ sides_of box node ++ later
  pub holds : HoldsNode names p cost box node
  pub is : IsHeldAs names p.links box node held

-- a node takes no box: there is none, or the node doesn't hold there
abbrev pub CannotTake : (ℕ → Inequality → Type 0) → Case → ℕ → Node → List TreeBox → Type 0
CannotTake names p cost node old = (box : TreeBox) (later : List TreeBox) → old ≡ box ∷ later → HoldsNode names p cost box node → ⊥

-- what a node takes, and none where it takes no box
abbrev pub TakesIfAny : Tests → Node → List TreeBox → List TreeBox → Option Held → Type 0
TakesIfAny t node old new None = CannotTake (names_in t) (case_of t.instance.now) t.cost node old
TakesIfAny t node old new (Some held) = TakesBox (names_in t) (case_of t.instance.now) t.cost node old new held

-- each box has a span for each module
abbrev pub HaveShape : List Link → List TreeBox → Type 0
HaveShape links boxes = All (λ box. AreCounts links (least_counts box)) boxes

-- what was found of the first n nodes: the least of the plan's cost and the open leaves' values, and whether a leaf is open
pub record IsFoundOf (p : Case) (proof : Proof) (n : ℕ) (found : Found) : Type 0 where
  pub at_most_cost : found.least ≤ proof.plan.cost
  pub at_most_each : (i value : ℕ) → i < n → IsOpenAt p proof i value → found.least ≤ value
  pub reached : (found.least ≡ proof.plan.cost) ⊎ ((i : ℕ) × IsOpenAt p proof i found.least)
  pub closed : found.is_open ≡ false → (i value : ℕ) → i < n → IsOpenAt p proof i value → ⊥
  pub opened : found.is_open ≡ true → (i : ℕ) × (value : ℕ) × IsOpenAt p proof i value

-- the first n nodes hold, what they leave is left, and this was found of them
pub record HasWalked (p : Case) (proof : Proof) (n : ℕ) (left : List TreeBox) (found : Found) : Type 0 where
  pub hold : (i : ℕ) → i < n → HoldsAtNode p proof i
  pub left_is : left ≡ boxes_left (whole_box p.links ∷ []) (take n proof.tree)
  pub shape : HaveShape p.links left
  pub found_is : IsFoundOf p proof n found

-- what was found, with a node that holds
abbrev pub with_held : Found → Held → Found
with_held found Settled = found
with_held found (Open value) = record { is_open = true; least = min value found.least }

-- a walk ends at what is wrong first, with the number of the answer
abbrev pub StopsWalk : Case → Proof → Stop → Type 0
StopsWalk p proof (Fault k) = IsLeastPlace (FailsAtNode p proof) k ⊎ (IsMissingAt p proof k ⊎ IsUnfounded p proof k)
StopsWalk p proof NoMemory = ⊤
