use Rattle.std.proofs.Common.{inl, refl}
use Rattle.plan_view.specs.Terms.{problem_case}
use Rattle.people_views.proofs.TreesRead.{line_found, lines_fail, lines_read, no_line}
use Rattle.people_views.proofs.plan_proof.plan_proof.Goals as goal

pub returns-then-begun-clause-reads : goal.returns-then-begun-clause-reads
returns-then-begun-clause-reads c =
    lines_read c.args.name.now (problem_case c.args.problem.now) c.args.plan.now c.args.bytes.now c.tree_proof.result c.tree_proof.ensures.reads

pub returns-then-begun-clause-fails : goal.returns-then-begun-clause-fails
returns-then-begun-clause-fails c =
    let p = problem_case c.args.problem.now in
    lines_fail c.args.name.now p c.args.plan.now c.args.bytes.now c.tree_proof.result
    (line_found c.args.name.now p c.args.plan.now c.args.bytes.now c.report_end-from.result c.has_tree_line-begun.result c.report_end-from.ensures.value c.has_tree_line-begun.ensures.value c.if-begun.true)
    c.tree_proof.ensures.fails

pub returns-clause-reads : goal.returns-clause-reads
returns-clause-reads c =
    let p = problem_case c.args.problem.now in
    inl (
      no_line c.args.name.now p c.args.plan.now c.args.bytes.now c.report_end-from.result c.has_tree_line-begun.result c.report_end-from.ensures.value c.has_tree_line-begun.ensures.value c.if-begun.false,
      refl,
    )
