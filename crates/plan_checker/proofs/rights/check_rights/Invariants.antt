use Rattle.std.proofs.Common.{ℕ, ◌<◌}
use Rattle.plan_terms.specs.Terms.{graph_in, Joins, case_of, IsRight}
use Rattle.plan_checker.{specs.Certified.HasStaleRight, specs.Places.HoldsAt}
use Rattle.plan_checker.proofs.rights.check_rights.Given as goal

-- the lines so far have the right sides of their cuts
abbrev pub invariant-loop-i : goal.invariant-loop-i
invariant-loop-i l = let p = case_of l.instance in record {
  none : (j : ℕ) (x y : ℕ) → j < l.i → HoldsAt l.lines j (λ line. HasStaleRight p line.cut x y) → ⊥;
  rights : (j : ℕ) → j < l.i → HoldsAt l.lines j (λ line. IsRight (Joins (graph_in p line.cut.state.0)) line.cut.lengths p.demands line.cut.right);
}
