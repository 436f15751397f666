-- the cheapest modules of a link for a need
use Rattle.std.specs.Prelude.{◌≡◌, ℕ, ◌-◌, ◌*◌, ◌≤◌, ◌⊎◌, List, Some, count_by, map, nat_lt, length, slice_get}
use Rattle.net_core.{specs.declared.network.Module.Module, specs.declared.network.Link.Link}
use Rattle.plan_terms.{specs.Bounds.IsGreatestDivisor, specs.Capacities.{link_cost, modules_capacity}}

-- counts of a link's modules that reach a need
pub record Reaches (modules : List Module) (need : ℕ) (counts : List ℕ) : Type 0 where
  pub shape : length counts ≡ length modules
  pub reached : need ≤ modules_capacity modules counts

-- at most one kind of module has a count above 0
abbrev pub AreOfOneKind : List ℕ → Type 0
AreOfOneKind counts = count_by (λ n. nat_lt 0 n) counts ≤ 1

-- the need is at most 100,000 steps of the greatest common divisor of the modules' capacities
pub record IsFewSteps (modules : List Module) (need : ℕ) : Type 0 where
  pub step : ℕ
  pub divisor : IsGreatestDivisor (map (λ m. m.capacity) modules) step
  pub few : need ≤ 100000 * step

-- the counts that a cover is chosen from: those of any kinds of module where the need is few steps, else those of one kind
abbrev pub MayCover : List Module → ℕ → List ℕ → Type 0
MayCover modules need counts = IsFewSteps modules need ⊎ AreOfOneKind counts

-- the cost of a cover: the least that such counts cost on the link which reach the need, its setup among it where they install something
pub record IsCoverCost (l : Link) (need cost : ℕ) : Type 0 where
  pub counts : List ℕ
  pub may : MayCover l.modules need counts
  pub reaches : Reaches l.modules need counts
  pub paid : link_cost l counts ≡ cost
  pub least : (others : List ℕ) → MayCover l.modules need others → Reaches l.modules need others → cost ≤ link_cost l others

-- counts cover a need: they reach it at the cost of its cover
pub record Covers (l : Link) (need : ℕ) (counts : List ℕ) : Type 0 where
  pub reaches : Reaches l.modules need counts
  pub cheapest : IsCoverCost l need (link_cost l counts)

-- the counts of each link cover its load less its pre-installed capacity
pub record CoverLoads (links : List Link) (loads : ℕ → ℕ) (counts : List (List ℕ)) : Type 0 where
  pub long : length counts ≡ length links
  pub each : (e : ℕ) (l : Link) (c : List ℕ) → slice_get links e ≡ Some l → slice_get counts e ≡ Some c → Covers l (loads e - l.fixed) c
