-- the bound that a cut gives alone, with its greatest valid multiplier
use Rattle.std.{specs.Prelude.{◌≡◌, ℕ, ◌-◌, ◌*◌, ◌≤◌, ◌<◌, List, Some, All, slice_get, slice_index}, specs.Int.◌∣◌}
use Rattle.net_core.{specs.declared.network.Link.Link, specs.declared.plan.CutLine.CutLine, specs.Terms.Case}
use Rattle.plan_terms.{specs.Bounds.IsBound, specs.Capacities.{IsAble, total_cost}, specs.Certificates.{IsCut, fixed_along}}

-- a multiplier of lengths is valid: no module's price exceeds its cost
pub record IsValid (links : List Link) (lengths : List ℕ) (num den : ℕ) : Type 0 where
  pub positive : 1 ≤ den
  pub priced : (e : ℕ) (l : Link) → slice_get links e ≡ Some l → All (λ m. num * slice_index lengths e * m.capacity ≤ den * m.cost) l.modules

-- the greatest valid multiplier of lengths, in lowest terms
pub record IsMultiplier (links : List Link) (lengths : List ℕ) (num den : ℕ) : Type 0 where
  pub valid : IsValid links lengths num den
  pub greatest : (a b : ℕ) → IsValid links lengths a b → a * den ≤ num * b
  pub lowest : (k : ℕ) → k ∣ num → k ∣ den → k ≡ 1

-- The own bound of a cut: what it asks for beyond what the pre-installed capacities give, times its greatest valid multiplier, rounded up.
pub record IsOwnBound (links : List Link) (lengths : List ℕ) (right bound : ℕ) : Type 0 where
  pub num : ℕ
  pub den : ℕ
  pub multiplier : IsMultiplier links lengths num den
  pub rounded : IsBound links (num * (right - fixed_along lengths links)) den bound

-- Cut k is the first of greatest own bound: each cut's own bound is at most that of cut k, and less where the cut comes before it.
pub record IsBestOwn (links : List Link) (cuts : List CutLine) (k : ℕ) : Type 0 where
  pub cut : CutLine
  pub at : slice_get cuts k ≡ Some cut
  pub best : ℕ
  pub own : IsOwnBound links cut.lengths cut.right best
  pub each : (i : ℕ) (c : CutLine) → slice_get cuts i ≡ Some c → (b : ℕ) × IsOwnBound links c.lengths c.right b × (b ≤ best) × (i < k → b < best)

-- no able counts cost less than the own bound of a cut
abbrev pub OwnBoundHolds : Type 0
OwnBoundHolds = (p : Case) (cut : CutLine) (bound : ℕ) (counts : List (List ℕ))
    → IsCut p cut
    → IsOwnBound p.links cut.lengths cut.right bound
    → IsAble p counts
    → bound ≤ total_cost p.links counts
