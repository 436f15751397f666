-- the flows of a basis of the routing program
use Rattle.std.specs.Prelude.{◌≡◌, ◌==◌, ℕ, List, Bool, false, cond}
use Rattle.plan_terms.specs.Terms.{RouteColumn, LinkSlack, DemandSlack, Carry, Flow, names_link, sum_below, sent, load}
use Rattle.simplex_law.specs.Terms.{ColumnOf}

-- the column carries demand k
abbrev pub is_of_demand : RouteColumn → ℕ → Bool
is_of_demand (LinkSlack link) k = false
is_of_demand (DemandSlack demand) k = false
is_of_demand (Carry demand path) k = demand == k

-- the column runs over link e
abbrev pub runs_over : RouteColumn → ℕ → Bool
runs_over (LinkSlack link) e = false
runs_over (DemandSlack demand) e = false
runs_over (Carry demand path) e = names_link e path

-- of each demand, and over each link, the flows sum to what the amounts of the first n columns do
pub record AreFlowsOf (n : ℕ) (basis : ℕ → ColumnOf RouteColumn) (amounts : ℕ → ℕ) (flows : List Flow) : Type 0 where
  pub sent_is : (k : ℕ) → sent flows k ≡ sum_below n (λ j. cond (is_of_demand (basis j).name k) (amounts j) 0)
  pub load_is : (e : ℕ) → load flows e ≡ sum_below n (λ j. cond (runs_over (basis j).name e) (amounts j) 0)
