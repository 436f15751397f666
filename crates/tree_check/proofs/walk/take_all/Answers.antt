use Rattle.std.proofs.Common.{◌≡◌, ℕ, ◌+◌, ◌<◌, false, List, Some, get_or, length, slice_get, inl, refl, subst, sym}
use Rattle.net_core.proofs.Library.{slice_get_read}
use Rattle.plan_terms.specs.Terms.{case_of}
use Rattle.tree_check.{specs.Trees.TreeBox, specs.declared.proof.Node.Node, specs.declared.walk.Found.Found, specs.inner.Walking.HasWalked, proofs.Walked.{walked_by_tests, stops_by_tests, walked_none}}
use Rattle.tree_check.proofs.walk.take_all.Goals as goal

pub loop-i-init : goal.loop-i-init
loop-i-init c =
    let p = case_of c.args.tests.now.instance.now in
    let found : Found = record { is_open = false; least = c.args.tests.now.cost } in
    subst (λ (left : List TreeBox). HasWalked p c.args.proof.now 0 left found) (sym c.requires.whole) (walked_none p c.args.proof.now found refl (sym c.requires.cost))

-- the node of a turn
node_at : (tree own : List Node) (i : ℕ) (node : Node) → own ≡ tree → i < length own → node ≡ get_or own i node → slice_get tree i ≡ Some node
node_at tree own i node same lt is = subst (λ (ns : List Node). slice_get ns i ≡ Some node) same (slice_get_read own (length own) i node refl lt is)

pub returns-in-None-clause-stops : goal.returns-in-None-clause-stops
returns-in-None-clause-stops c =
    let tree = c.items-tree.result.now in
    let i = c.loop-i.i in
    inl (stops_by_tests c.args.tests.now c.args.proof.now c.requires.tests c.requires.cost i c.index-tree-i.result c.loop-i.left.items c.take_node.new.left.items c.loop-i.found c.in_ok-take_node.field-0
    (subst (λ (ns : List Node). i < length ns) c.items-tree.ensures c.loop-i-test.true)
    (node_at c.args.proof.now.tree tree i c.index-tree-i.result c.items-tree.ensures c.loop-i-test.true c.index-tree-i.is)
    c.loop-i.invariant c.in_ok-take_node.ensures c.in-None.is)

pub loop-i-preserved : goal.loop-i-preserved
loop-i-preserved c =
    let tree = c.items-tree.result.now in
    let i = c.loop-i.i in
    subst (HasWalked (case_of c.args.tests.now.instance.now) c.args.proof.now (i + 1) c.take_node.new.left.items) (sym c.with_held-found.ensures)
    (walked_by_tests c.args.tests.now c.args.proof.now c.requires.tests c.requires.cost i c.index-tree-i.result c.loop-i.left.items c.take_node.new.left.items c.in-Some.held c.loop-i.found c.in_ok-take_node.field-0
    (node_at c.args.proof.now.tree tree i c.index-tree-i.result c.items-tree.ensures c.loop-i-test.true c.index-tree-i.is)
    c.loop-i.invariant c.in_ok-take_node.ensures c.in-Some.is)
