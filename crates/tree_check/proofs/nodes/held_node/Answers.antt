use Rattle.std.proofs.Common.{subst, sym}
use Rattle.tree_check.{specs.declared.proof.Node.Node, specs.inner.Walking.IsHeldIn, proofs.NodesHeld.{held_spent, held_stuck}}
use Rattle.tree_check.proofs.nodes.held_node.Goals as goal

pub returns-in-Spent : goal.returns-in-Spent
returns-in-Spent c =
    let t = c.args.tests.now in
    let box = c.args.boxed.now in
    subst (λ (n : Node). IsHeldIn t box n c.held_open.result) (sym c.in-Spent.is) (held_spent t box c.in-Spent.cert c.held_open.result c.held_open.ensures)

pub returns-then-branch : goal.returns-then-branch
returns-then-branch c =
    let t = c.args.tests.now in
    let box = c.args.boxed.now in
    let stuck = c.in_ok-is_stuck-in-Stuck.ensures.0 c.if-branch.true in
    subst (λ (n : Node). IsHeldIn t box n c.held_open-then-branch.result) (sym c.in-Stuck.is)
    (held_stuck t box c.in-Stuck.cert c.in-Stuck.evidence c.held_open-then-branch.result stuck c.held_open-then-branch.ensures)
