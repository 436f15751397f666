use Rattle.std.proofs.Common.{◌≡◌, ℕ, ap, arith, length, refl, subst, sym}
use Rattle.tree_check.{specs.Proofs.{AnswersProof, IsAcceptedProof}, specs.declared.proof.Proof.Proof, specs.declared.proof.TreeAnswer.TheVariants.Rejected}
use Rattle.view_text.{specs.Terms.HoldsProof, specs.declared.proof.CostProof.CostProof}
use Rattle.plan_view.specs.Terms.{case_of_plan, problem_case}
use Rattle.people_files.proofs.Causing.{told_so}
use Rattle.people_views.{specs.ProofLines.{TellsRejectedTree, tree_message}, proofs.TreesHeld.tree_holds}
use Rattle.outside_io.specs.declared.status.Status.TheVariants as status
use Rattle.people_views.proofs.trees.checked_tree.Goals as goal

pub check_tree-requires-clause-few : goal.check_tree-requires-clause-few
check_tree-requires-clause-few c =
    omega (arith, ap (λ (q : Proof). length q.tree) c.in_ok-proof.ensures, c.len-nodes.ensures, c.if-nodes-ge-MOST_NODES.false)

pub returns-in-Accepted-clause-accepted : goal.returns-in-Accepted-clause-accepted
returns-in-Accepted-clause-accepted c =
    let p = case_of_plan (problem_case c.args.problem.now) c.args.plan.now in
    subst (λ (q : Proof). IsAcceptedProof p q) c.in_ok-proof.ensures (rw c.in-Accepted.is at c.check_tree.ensures.told)

pub returns-in-Accepted-clause-holds : goal.returns-in-Accepted-clause-holds
returns-in-Accepted-clause-holds c =
    let p = case_of_plan (problem_case c.args.problem.now) c.args.plan.now in
    let proof = c.in_ok-proof.proof in
    subst (λ (shown : CostProof). HoldsProof p c.args.plan.now shown) (sym c.told_by-shown.ensures)
    (tree_holds p c.args.plan.now c.args.tree proof c.len-nodes.result c.in_ok-proof.ensures (c.check_tree.ensures.cheapest c.in-Accepted.is, c.check_tree.ensures.above c.in-Accepted.is))

pub returns-in-Rejected-clause-rejected : goal.returns-in-Rejected-clause-rejected
returns-in-Rejected-clause-rejected c =
    let p = case_of_plan (problem_case c.args.problem.now) c.args.plan.now in
    let t = c.args.tree in
    let name = c.args.name.now in
    told_so status.Rejected (λ m. m ≡ tree_message name c.len-nodes.result c.in-Rejected.node)
    (λ s message. (s ≡ status.Rejected) × TellsRejectedTree name (problem_case c.args.problem.now) c.args.plan.now t message)
    c.tree_message.result c.told.result c.tree_message.ensures c.told.ensures
    (λ m printed. (
      refl,
      (
        c.in-Rejected.node,
        subst (λ (q : Proof). AnswersProof p q (Rejected c.in-Rejected.node)) c.in_ok-proof.ensures (rw c.in-Rejected.is at c.check_tree.ensures.told),
        subst (λ (n : ℕ). m ≡ tree_message name n c.in-Rejected.node) c.len-nodes.ensures printed,
      ),
    ))
