use Rattle.checked_fraction.specs.Terms.{num}
use Rattle.simplex_law.proofs.Lemmas.{left_above}
use Rattle.simplex_core.{specs.Programs.IsSameProgram, proofs.Solving.IsAt}
use Rattle.simplex_core.proofs.solver.solve.Given as goal

-- the basis is one of the program, which is as it was at first
abbrev pub invariant-loop-basis : goal.invariant-loop-basis
invariant-loop-basis g l =
    let first = l.fn.cols in
    record {
      at : IsAt (g.C.Columns.rows first) (g.C.Columns.bound first) (g.C.Columns.slack first) (g.C.Columns.is_listed first) l.basis;
      same : IsSameProgram (g.C.Columns.rows first) (g.C.Columns.rows l.cols) (g.C.Columns.bound first) (g.C.Columns.bound l.cols) (g.C.Columns.slack first) (g.C.Columns.slack l.cols) (g.C.Columns.is_listed first) (g.C.Columns.is_listed l.cols);
    }

-- what is left above the prices
abbrev pub decreases-loop-basis : goal.decreases-loop-basis
decreases-loop-basis g l = left_above (g.C.Columns.rows l.fn.cols) (g.C.Columns.bound l.fn.cols) (num l.basis.duals.nums) l.basis.duals.den
