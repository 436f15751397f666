use Rattle.std.proofs.Common.{inl, map, take}
use Rattle.plan_terms.specs.Terms.{case_of}
use Rattle.line_check.specs.Testing.{AreTested}
use Rattle.line_check.proofs.tested_lines.add_cuts.Given as goal

-- the cuts so far
abbrev pub invariant-loop-cut : goal.invariant-loop-cut
invariant-loop-cut l = AreTested (case_of l.instance) (map inl (take l.cut-index l.cuts)) l.tested
