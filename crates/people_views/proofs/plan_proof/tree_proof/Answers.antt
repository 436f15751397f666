use Rattle.net_core.proofs.Library.{err_from_is_err_and}
use Rattle.plan_view.specs.Terms.{problem_case}
use Rattle.people_views.proofs.TreesRead.{none_read, tree_fails, tree_read}
use Rattle.people_views.proofs.plan_proof.tree_proof.Goals as goal

pub returns-clause-reads : goal.returns-clause-reads
returns-clause-reads c =
    tree_read c.args.name.now (problem_case c.args.problem.now) c.args.plan.now c.args.bytes.now c.in_ok-tree.tree c.checked_tree.result
    c.in_ok-tree.ensures.spelled c.checked_tree.ensures.accepted c.checked_tree.ensures.told

pub returns-clause-fails : goal.returns-clause-fails
returns-clause-fails c =
    tree_fails c.args.name.now (problem_case c.args.problem.now) c.args.plan.now c.args.bytes.now c.in_ok-tree.tree c.checked_tree.result
    c.in_ok-tree.ensures.spelled c.checked_tree.ensures.rejected

pub returns-in_err-tree-clause-fails : goal.returns-in_err-tree-clause-fails
returns-in_err-tree-clause-fails c =
    let e = err_from_is_err_and c.from_residual.result c.from_residual.ensures.1 in
    rw (e.1, e.2) (none_read c.args.name.now (problem_case c.args.problem.now) c.args.plan.now c.args.bytes.now c.in_err-tree.field-0.0 c.in_err-tree.ensures.refused)
