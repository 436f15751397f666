-- the flows of a basis that is given by its names and values
use Rattle.std.proofs.Common.{◌≡◌, ℕ, suc, ◌+◌, ◌<◌, ◌++◌, List, [], ◌∷◌, Option, None, Some, MatchOption, get_or, length, length-append, slice_get, ⊎_elim, sym, ap, ◌∙◌, subst, arith}
use Rattle.net_core.proofs.Library.{All-push}
use Rattle.plan_terms.specs.Terms.{RouteColumn, Flow}
use Rattle.simplex_law.specs.Terms.{ColumnOf, AreNames}
use Rattle.route_law.{specs.Terms.{is_of_demand, runs_over, AreFlowsOf}, proofs.Lemmas.{flows_pass, flows_push, flows_slack}}
use Rattle.flow_router.specs.inner.Flowing.{AreBasisFlows, IsBasisFlow, IsFlowOfColumn}

name_at : (names : List RouteColumn) (basis : ℕ → ColumnOf RouteColumn) (n : ℕ) (name : RouteColumn) → n < length names → AreNames (length names) basis names → slice_get names n ≡ Some name → (basis n).name ≡ name
name_at names basis n name lt named at = cc (named.each n lt, at)

-- a column that gives no flow
pub basis_flows_pass : (names : List RouteColumn) (values : List ℕ) (n v : ℕ) (name : RouteColumn) (flows : List Flow) → n < length names → slice_get names n ≡ Some name → v ≡ get_or values n 0
    → IsFlowOfColumn name v None → AreBasisFlows names values n flows → AreBasisFlows names values (n + 1) flows
basis_flows_pass names values n v name flows lt at is nothing sofar = record {
  few = omega (arith, sofar.few);
  each = sofar.each;
  sums = λ basis named. subst (λ k. AreFlowsOf k basis (λ j. get_or values j 0) flows) next (⊎_elim
      (λ zero. flows_pass basis (λ j. get_or values j 0) n flows (sym is ∙ zero) (sofar.sums basis named))
      (λ off. flows_slack basis (λ j. get_or values j 0) n flows
      (λ k. ap (λ x. is_of_demand x k) (name_at names basis n name lt named at) ∙ off.0 k)
      (λ e. ap (λ x. runs_over x e) (name_at names basis n name lt named at) ∙ off.1 e)
      (sofar.sums basis named))
      nothing);
}
  where
    next : suc n ≡ n + 1
    next = omega arith

-- a column that gives one
pub basis_flows_push : (names : List RouteColumn) (values : List ℕ) (n v : ℕ) (name : RouteColumn) (flows : List Flow) (f : Flow) → n < length names → slice_get names n ≡ Some name → v ≡ get_or values n 0
    → IsFlowOfColumn name v (Some f) → AreBasisFlows names values n flows → AreBasisFlows names values (n + 1) (flows ++ f ∷ [])
basis_flows_push names values n v name flows f lt at is flow sofar = record {
  few = omega (arith, sofar.few, length-append flows (f ∷ []));
  each = All-push (IsBasisFlow names values) flows f sofar.each (record { place = n; at = at ∙ ap Some flow.1; positive = omega (arith, flow.0, flow.2); num = flow.2 ∙ is });
  sums = λ basis named. subst (λ k. AreFlowsOf k basis (λ j. get_or values j 0) (flows ++ f ∷ [])) next (flows_push basis (λ j. get_or values j 0) n flows f (flow.2 ∙ is)
      (λ k. ap (λ x. is_of_demand x k) (name_at names basis n name lt named at ∙ flow.1))
      (λ e. ap (λ x. runs_over x e) (name_at names basis n name lt named at ∙ flow.1))
      (sofar.sums basis named));
}
  where
    next : suc n ≡ n + 1
    next = omega arith

-- what a column gives
pub basis_flows_more : (names : List RouteColumn) (values : List ℕ) (n v : ℕ) (name : RouteColumn) (flows new : List Flow) (o : Option Flow) → n < length names → slice_get names n ≡ Some name → v ≡ get_or values n 0
    → IsFlowOfColumn name v o → MatchOption o (new ≡ flows) (λ f. new ≡ flows ++ f ∷ []) → AreBasisFlows names values n flows → AreBasisFlows names values (n + 1) new
basis_flows_more names values n v name flows new None lt at is of made sofar = subst (λ fs. AreBasisFlows names values (n + 1) fs) (sym made) (basis_flows_pass names values n v name flows lt at is of sofar)
basis_flows_more names values n v name flows new (Some f) lt at is of made sofar = subst (λ fs. AreBasisFlows names values (n + 1) fs) (sym made) (basis_flows_push names values n v name flows f lt at is of sofar)
