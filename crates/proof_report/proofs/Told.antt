-- the nodes of a proof can be told
use Rattle.std.proofs.Common.{ℕ, List, subst, sym}
use Rattle.net_core.proofs.Library.{get_or_from_slice_get}
use Rattle.plan_terms.specs.Terms.{Case, Evidence, Route, Master}
use Rattle.report_comments.specs.ReportComments.{IsOfRouting}
use Rattle.tree_search.specs.Terms.{Inequality, HoldsAtNode, HoldsNode, IsAcceptedProof, IsEvidenceAt, names_in_proof, TreeBox, Node, Split, Closed, Empty, Spent, Stuck, Proof}
use Rattle.tree_lines.specs.TreeLines.{IsToldNode, IsToldProof}

evidence_told : (p : Case) (counts : List (List ℕ)) (e : Evidence) → IsEvidenceAt p counts e → IsOfRouting e
evidence_told p counts (Route state caps basis kind) is = tt
evidence_told p counts (Master basis kind) is = is

node_told : (names : ℕ → Inequality → Type 0) (p : Case) (cost : ℕ) (box : TreeBox) (node : Node) → HoldsNode names p cost box node → IsToldNode node
node_told names p cost box (Split link at_module number) holds = tt
node_told names p cost box (Closed cert) holds = tt
node_told names p cost box (Empty cut) holds = tt
node_told names p cost box (Spent cert) holds = tt
node_told names p cost box (Stuck cert evidence) holds = evidence_told p _ evidence holds.2

pub proof_told : (p : Case) (proof : Proof) → IsAcceptedProof p proof → IsToldProof proof
proof_told p proof accepted i d lt =
    let holds : HoldsAtNode p proof i = accepted.hold i lt in
    subst IsToldNode (sym (get_or_from_slice_get proof.tree i holds.node d holds.is_node.at)) (node_told (names_in_proof p proof) p proof.plan.cost holds.box holds.node holds.holds)
