-- the counts that a link gets, chosen by its modules alone
use Rattle.std.specs.Prelude.{◌≡◌, ℕ, ◌^◌, ◌<◌, ◌≤◌, List, All}
use Rattle.plan_terms.specs.Terms.{Module, modules_capacity, modules_cost, MayCover, Reaches}

-- Of the counts that a cover is chosen from and that reach the need these cost least, without a setup. None is installed where nothing is needed. They
-- are within the limits.
pub record AreCheapest (modules : List Module) (need : ℕ) (counts : List ℕ) : Type 0 where
  pub reaches : Reaches modules need counts
  pub may : MayCover modules need counts
  pub least : (others : List ℕ) → MayCover modules need others → Reaches modules need others → modules_cost modules counts ≤ modules_cost modules others
  pub none : need ≡ 0 → All (λ n. n ≡ 0) counts
  pub few : All (λ n. n < 2 ^ 44) counts
  pub narrow : modules_capacity modules counts < 2 ^ 45
