use Rattle.plan_terms.specs.Terms.{graph_of}
use Rattle.row_cuts.specs.inner.Tests.{ArePathRowsBelow}
use Rattle.row_cuts.proofs.paths.are_path_rows.Given as goal

-- the rows so far are of columns beside the keys
abbrev pub invariant-loop-i : goal.invariant-loop-i
invariant-loop-i l = ArePathRowsBelow (graph_of l.graph) l.demands l.rows l.i
