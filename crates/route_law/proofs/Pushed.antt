-- the flows of one basic column more
use Rattle.std.proofs.Common.{◌≡◌, ℕ, suc, List, [], ◌∷◌, ◌++◌, Bool, true, false, cond, eqb, refl, ap, ◌∙◌, arith}
use Rattle.net_core.proofs.Library.{sum_by_push}
use Rattle.plan_terms.specs.Terms.{RouteColumn, Flow, names_link}
use Rattle.simplex_law.specs.Terms.{ColumnOf}
use Rattle.route_law.specs.BasisFlows.{is_of_demand, runs_over, AreFlowsOf}

module _ (basis : ℕ → ColumnOf RouteColumn) (amounts : ℕ → ℕ) where
  nothing : (b : Bool) (v : ℕ) → v ≡ 0 → cond b v 0 ≡ 0
  nothing true v z = z
  nothing false v z = refl

  pub flows_pass : (n : ℕ) (flows : List Flow) → amounts n ≡ 0 → AreFlowsOf n basis amounts flows → AreFlowsOf (suc n) basis amounts flows
  flows_pass n flows z of = record {
    sent_is = λ k. omega (arith, of.sent_is k, nothing (is_of_demand (basis n).name k) (amounts n) z);
    load_is = λ e. omega (arith, of.load_is e, nothing (runs_over (basis n).name e) (amounts n) z);
  }

  pub flows_slack : (n : ℕ) (flows : List Flow) → ((k : ℕ) → is_of_demand (basis n).name k ≡ false) → ((e : ℕ) → runs_over (basis n).name e ≡ false) → AreFlowsOf n basis amounts flows → AreFlowsOf (suc n) basis amounts flows
  flows_slack n flows no_demand no_link of = record {
    sent_is = λ k. omega (arith, of.sent_is k, ap (λ b. cond b (amounts n) 0) (no_demand k));
    load_is = λ e. omega (arith, of.load_is e, ap (λ b. cond b (amounts n) 0) (no_link e));
  }

  pub flows_push : (n : ℕ) (flows : List Flow) (f : Flow) → f.num ≡ amounts n → ((k : ℕ) → is_of_demand (basis n).name k ≡ eqb f.demand k) → ((e : ℕ) → runs_over (basis n).name e ≡ names_link e f.path)
      → AreFlowsOf n basis amounts flows → AreFlowsOf (suc n) basis amounts (flows ++ f ∷ [])
  flows_push n flows f num demand path of = record {
    sent_is = λ k. sum_by_push (λ g. cond (eqb g.demand k) g.num 0) flows f ∙ omega (arith, of.sent_is k, ap (λ a. cond (eqb f.demand k) a 0) num, ap (λ b. cond b (amounts n) 0) (demand k));
    load_is = λ e. sum_by_push (λ g. cond (names_link e g.path) g.num 0) flows f ∙ omega (arith, of.load_is e, ap (λ a. cond (names_link e f.path) a 0) num, ap (λ b. cond b (amounts n) 0) (path e));
  }
