-- ratios of a cost and a size, where a size of 0 makes a ratio greater than all
use Rattle.std.specs.Prelude.{◌≡◌, ℕ, ◌*◌, ◌^◌, ◌≤◌, ◌<◌, List, All}
use Rattle.plan_terms.specs.Terms.{Module}
use Rattle.metric_cut.specs.declared.ratio.Ratio.{Ratio}

-- no ratio that is at least b is below a
abbrev pub IsNoGreater : Ratio → Ratio → Type 0
IsNoGreater a b = (c s : ℕ) → b.cost * s ≤ c * b.size → a.cost * s ≤ c * a.size

-- the ratio of a module, whose size is its capacity times its link's length
pub record IsRatioOf (length : ℕ) (r : Ratio) (m : Module) : Type 0 where
  pub cost : m.cost ≡ r.cost
  pub size : m.capacity * length ≡ r.size
  pub some : 0 < r.size

-- no module's ratio is below this one
abbrev pub IsLeastOf : List Module → ℕ → Ratio → Type 0
IsLeastOf modules length r = All (λ m. r.cost * (m.capacity * length) ≤ m.cost * r.size) modules

-- the numbers of a ratio are those of a module within the limits
pub record IsSmall (r : Ratio) : Type 0 where
  pub cost : r.cost < 2 ^ 40
  pub size : r.size < 2 ^ 72
