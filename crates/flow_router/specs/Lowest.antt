-- routings and their lowest terms
use Rattle.std.{specs.Prelude.{◌≡◌, ℕ, ◌<◌, List, All}, specs.Int.◌∣◌}
use Rattle.plan_terms.specs.Terms.{Flow, Routing}
use Rattle.route_law.specs.Terms.{IsLowestRouting, over_times}

-- the greatest number that divides the denominator and each numerator
pub record IsCommonDivisor (den : ℕ) (flows : List Flow) (common : ℕ) : Type 0 where
  pub positive : 0 < common
  pub of_den : common ∣ den
  pub of_nums : All (λ f. common ∣ f.num) flows
  pub greatest : (d : ℕ) → d ∣ den → All (λ f. d ∣ f.num) flows → d ∣ common

-- a routing, and this routing in lowest terms
pub record IsInLowest (routing lowest : Routing) : Type 0 where
  pub common : ℕ
  pub positive : 0 < common
  pub is : routing ≡ over_times common lowest
  pub lowest_terms : IsLowestRouting lowest
