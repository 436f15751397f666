-- what branch trees, lines and box values are good for
use Rattle.std.specs.Prelude.{◌≡◌, ℕ, ◌≤◌, List, [], All}
use Rattle.plan_terms.specs.Terms.{AreCounts, Case, IsAble, Link, total_cost}
use Rattle.line_check.{specs.Terms.{MeetsLine, WeightedLine}, specs.declared.inequality.Inequality.Inequality}
use Rattle.tree_check.{specs.Boxes.{AreInBox, IsSplitOf}, specs.BoxValues.{IsBoxValue, IsEmptiedBy}, specs.Proofs.IsAcceptedProof, specs.Trees.{IsNodeOf, IsWhole, TreeBox, sides_of}, specs.declared.proof.Node.Node, specs.declared.proof.Node.TheVariants.Split, specs.declared.proof.Proof.Proof, specs.declared.proof.Verdict.TheVariants.{Cheapest, Above}}

-- a split is one of its box
abbrev pub IsSplitIfAny : TreeBox → Node → Type 0
IsSplitIfAny box (Split link at_module number) = IsSplitOf box link.0 at_module number
IsSplitIfAny box _ = Unit {0}

-- some leaf of the tree has the counts in its box
pub record IsInLeaf (links : List Link) (tree : List Node) (counts : List (List ℕ)) : Type 0 where
  pub place : ℕ
  pub box : TreeBox
  pub node : Node
  pub is_node : IsNodeOf links tree place box node
  pub leaf : sides_of box node ≡ []
  pub within : AreInBox box counts

-- The leaves of a whole tree cover all counts, where each split is one of its box.
abbrev pub LeavesCover : Type 0
LeavesCover = (links : List Link) (tree : List Node) (counts : List (List ℕ))
    → IsWhole links tree
    → ((i : ℕ) (box : TreeBox) (node : Node) → IsNodeOf links tree i box node → IsSplitIfAny box node)
    → AreCounts links counts
    → IsInLeaf links tree counts

-- No counts of a box that meet the lines of a certificate cost less than its value.
abbrev pub BoxValueHolds : Type 0
BoxValueHolds = (links : List Link) (box : TreeBox) (den : ℕ) (terms : List WeightedLine) (value : ℕ) (counts : List (List ℕ))
    → IsBoxValue links box den terms value
    → AreCounts links counts
    → AreInBox box counts
    → All (λ t. MeetsLine links t.line counts) terms
    → value ≤ total_cost links counts

-- No counts of an emptied box meet the line that empties it.
abbrev pub EmptiedHasNone : Type 0
EmptiedHasNone = (links : List Link) (box : TreeBox) (line : Inequality) (counts : List (List ℕ))
    → IsEmptiedBy links box line
    → AreCounts links counts
    → AreInBox box counts
    → MeetsLine links line counts
    → ⊥

-- Where an accepted proof says so, no able counts cost less than the plan.
abbrev pub CheapestHolds : Type 0
CheapestHolds = (p : Case) (proof : Proof) (counts : List (List ℕ))
    → IsAcceptedProof p proof
    → proof.verdict ≡ Cheapest
    → IsAble p counts
    → proof.plan.cost ≤ total_cost p.links counts

-- The least of the plan's cost and the values of the open leaves is a lower bound of what able counts cost.
abbrev pub OpenLeavesHold : Type 0
OpenLeavesHold = (p : Case) (proof : Proof) (least : ℕ) (counts : List (List ℕ))
    → IsAcceptedProof p proof
    → proof.verdict ≡ Above least
    → IsAble p counts
    → least ≤ total_cost p.links counts
