-- what `cover` and `cover_needs` answer
use Rattle.std.specs.Prelude.{◌≡◌, ℕ, ◌^◌, ◌<◌, List, All, Some, length, slice_get, slice_index}
use Rattle.plan_terms.specs.Terms.{Link, link_cost, modules_capacity, Covers, MayCover}
use Rattle.module_choice.specs.declared.covers.Covering.{Covering}

-- counts that cover the link's need, with their cost: of one kind where the need is more than few steps; counts and capacity are within the limits
pub record IsCovering (l : Link) (need : ℕ) (c : Covering) : Type 0 where
  pub covers : Covers l need c.counts
  pub may : MayCover l.modules need c.counts
  pub paid : c.cost ≡ link_cost l c.counts
  pub small : All (λ n. n < 2 ^ 44) c.counts
  pub narrow : modules_capacity l.modules c.counts < 2 ^ 45

-- counts that cover a link's need, within the limits
pub record IsCovered (l : Link) (need : ℕ) (counts : List ℕ) : Type 0 where
  pub covers : Covers l need counts
  pub few : All (λ n. n < 2 ^ 44) counts
  pub narrow : modules_capacity l.modules counts < 2 ^ 45

-- the counts of each link cover what it needs, within the limits
pub record CoverNeeds (links : List Link) (needs : List ℕ) (counts : List (List ℕ)) : Type 0 where
  pub long : length counts ≡ length links
  pub each : (e : ℕ) (l : Link) (c : List ℕ) → slice_get links e ≡ Some l → slice_get counts e ≡ Some c → IsCovered l (slice_index needs e) c
