-- what else makes a plan sound: its bound isn't below own bounds, its cost isn't above the fallback plan's, and it is in lowest terms
use Rattle.std.{specs.Prelude.{◌≡◌, ℕ, ◌≤◌, ◌<◌, List, [], All, length}, specs.Int.◌∣◌}
use Rattle.plan_terms.specs.Terms.{Routing, Case, graph_in, Joins, IsRight, IsFallback, AreOpening, IsOwnBound}
use Rattle.plan_report.specs.Terms.{Certificate, Plan}
use Rattle.route_law.specs.Terms.{IsLowestRouting}

-- ---- the bound

-- lengths of state s have a right side at the demands, and an own bound of at most this bound
pub record IsOwnAtMost (p : Case) (bound s : ℕ) (lengths : List ℕ) : Type 0 where
  pub right : ℕ
  pub is_right : IsRight (Joins (graph_in p s)) lengths p.demands right
  pub own : ℕ
  pub is_own : IsOwnBound p.links lengths right own
  pub at_most : own ≤ bound

-- each opening cut of state s has an own bound of at most this bound
pub record AreOpeningAtMost (p : Case) (bound s : ℕ) : Type 0 where
  pub lengths : List (List ℕ)
  pub opening : AreOpening (graph_in p s) lengths
  pub each : All (IsOwnAtMost p bound s) lengths

-- the bound is at least the own bound of each of the cuts, and of each opening cut
pub record IsAboveOwnBounds (p : Case) (cuts : List (ℕ × List ℕ)) (bound : ℕ) : Type 0 where
  pub known : All (λ cut. IsOwnAtMost p bound cut.0 cut.1) cuts
  pub opening : (s : ℕ) → s ≤ length p.listed → AreOpeningAtMost p bound s

-- ---- the cost

-- the plan costs at most what the fallback plan costs
pub record IsBelowFallback (p : Case) (cost : ℕ) : Type 0 where
  pub counts : List (List ℕ)
  pub routings : List Routing
  pub fallback_cost : ℕ
  pub fallback : IsFallback p counts routings fallback_cost
  pub at_most : cost ≤ fallback_cost

-- ---- lowest terms

-- no number above 1 divides the denominator and all numerators, and no numerator is 0
pub record IsLowestCertificate (c : Certificate) : Type 0 where
  pub common : (d : ℕ) → d ∣ c.den → All (λ l. d ∣ l.num) c.lines → d ≡ 1
  pub positive : All (λ l. 0 < l.num) c.lines

-- certificate and routings are in lowest terms, and a raw value of 0 needs no cut
pub record IsLowestPlan (plan : Plan) : Type 0 where
  pub certificate : IsLowestCertificate plan.certificate
  pub none : plan.raw_num ≡ 0 → plan.certificate.lines ≡ []
  pub routings : All IsLowestRouting plan.routings
