use Rattle.std.proofs.Common.{ℕ, ◌<◌}
use Rattle.plan_terms.specs.Terms.{graph_in, case_of, AreKept}
use Rattle.plan_checker.{specs.Certified.IsLocalCut, specs.Places.HoldsAt}
use Rattle.plan_checker.proofs.local_cuts.first_local.Given as goal

-- the lines so far are allowed
abbrev pub invariant-loop-i : goal.invariant-loop-i
invariant-loop-i l = let p = case_of l.instance in record {
  none : (j : ℕ) → j < l.i → HoldsAt l.lines j (IsLocalCut p l.full) → ⊥;
  kept : (j : ℕ) → j < l.i → HoldsAt l.lines j (λ line. AreKept (graph_in p line.cut.state.0) line.cut.lengths);
}
