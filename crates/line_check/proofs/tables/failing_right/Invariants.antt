use Rattle.plan_terms.specs.Terms.{case_of}
use Rattle.line_check.proofs.TableParts.{IsLeastSo}
use Rattle.line_check.proofs.tables.failing_right.Given as goal

-- the least of the kinds so far
abbrev pub invariant-loop-k : goal.invariant-loop-k
invariant-loop-k l = IsLeastSo (case_of l.instance) l.over l.kinds l.weights l.k l.right
