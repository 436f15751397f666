use Rattle.std.proofs.Common.{ℕ, ◌<◌, ◌≤◌, All, length}
use Rattle.plan_terms.specs.Terms.{case_of}
use Rattle.line_check.specs.Testing.{test_at}
use Rattle.table_maker.specs.Made.{HasLineOver, IsNarrowLine, IsWideLine}
use Rattle.table_maker.proofs.narrow.narrow_lines.Given as goal

-- the lines so far are narrow, at most one over each, and one over each that needs too much
abbrev pub invariant-loop-i : goal.invariant-loop-i
invariant-loop-i l = record {
  narrow : All (IsNarrowLine (case_of l.instance) l.tested) l.lines;
  few : length l.lines ≤ l.i;
  all : (k : ℕ) → k < l.i → IsWideLine (case_of l.instance).links (test_at l.tested k) → HasLineOver (case_of l.instance).links l.tested l.lines k;
}
