-- the lines of cuts
use Rattle.std.proofs.Common.{◌≡◌, ◌∙◌, ℕ, ◌≤◌, length, sym, ap, subst}
use Rattle.plan_terms.specs.Terms.{CutLine, Case, graph_in, Joins, AreKept, IsCut, IsRight}
use Rattle.metric_cut.{specs.Cuts.{IsCutOf, IsLineAt}, specs.declared.cut.Cut.Cut}

-- the line of a cut of the case's network is a cut of the case
pub line_is_cut : (p : Case) (s : ℕ) (cut : Cut) (line : CutLine) → IsCutOf (graph_in p s) cut → IsLineAt p.demands cut line → IsCut p line
line_is_cut p s cut line of is =
    let there : s ≡ line.state.0 = of.state ∙ sym (ap (λ st. st.0) is.state) in
    let same : cut.lengths ≡ line.lengths = sym is.lengths in
    record {
      listed_state = subst (λ k. k ≤ length p.listed) there of.listed_state;
      kept = subst (λ k. AreKept (graph_in p k) line.lengths) there (subst (AreKept (graph_in p s)) same of.kept);
      right = subst (λ k. IsRight (Joins (graph_in p k)) line.lengths p.demands line.right) there
          (subst (λ ls. IsRight (Joins (graph_in p s)) ls p.demands line.right) same (is.right (graph_in p s) of));
    }
