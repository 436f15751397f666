-- splits that have their causes
use Rattle.std.proofs.Common.{ℕ, List}
use Rattle.plan_terms.specs.Terms.{Case, CutLine}
use Rattle.tree_check.specs.Terms.{HoldsNode, names_in_proof, TreeBox}
use Rattle.tree_boxes.specs.Terms.{Node, Split, Closed, Empty, Spent, Stuck, Proof}
use Rattle.tree_search.{specs.FewSplits.IsCheapSplit, specs.Proving.HasNodeCause}

-- a node that holds and has its cause is a cheap split, if it is a split
pub cheap_of : (p : Case) (proof : Proof) (handed : List CutLine) (limit : ℕ) (box : TreeBox) (node : Node) → HoldsNode (names_in_proof p proof) p proof.plan.cost box node
    → HasNodeCause p proof.plan handed limit proof.tree box node → IsCheapSplit p.links proof.plan.cost box node
cheap_of p proof handed limit box (Split link at_module number) holds cause = (holds, cause.0)
cheap_of p proof handed limit box (Closed cert) holds cause = tt
cheap_of p proof handed limit box (Empty cut) holds cause = tt
cheap_of p proof handed limit box (Spent cert) holds cause = tt
cheap_of p proof handed limit box (Stuck cert evidence) holds cause = tt
