use Rattle.std.proofs.Common.{inr, ◌++◌, List, map, take}
use Rattle.plan_terms.specs.Terms.{case_of}
use Rattle.line_check.{specs.Lines.Source, specs.Testing.AreTested}
use Rattle.line_check.proofs.tested_lines.add_lines.Given as goal

-- the lines so far, after any that were tested before
abbrev pub invariant-loop-line : goal.invariant-loop-line
invariant-loop-line l = (first : List Source) → AreTested (case_of l.instance) first l.fn.tested
    → AreTested (case_of l.instance) (first ++ map inr (take l.line-index l.lines)) l.tested
