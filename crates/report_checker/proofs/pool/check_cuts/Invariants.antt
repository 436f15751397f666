use Rattle.std.proofs.Common.{ℕ, ◌<◌}
use Rattle.plan_terms.specs.Terms.{graph_in, case_of, AreKept}
use Rattle.plan_checker.specs.Terms.{HoldsAt}
use Rattle.report_checker.specs.Pools.{IsBadCut}
use Rattle.report_checker.proofs.pool.check_cuts.Given as goal

-- none of the lines so far is bad
abbrev pub invariant-loop-k : goal.invariant-loop-k
invariant-loop-k l = let p = case_of l.instance in record {
  none : (j : ℕ) → j < l.k → HoldsAt l.pool j (IsBadCut p l.pool j) → ⊥;
  kept : (j : ℕ) → j < l.k → HoldsAt l.pool j (λ line. AreKept (graph_in p line.state.0) line.lengths);
}
