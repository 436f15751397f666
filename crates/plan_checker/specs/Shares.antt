-- fractional capacities: what a share gives each link, what it costs, and whether a plan is tight by it
use Rattle.std.specs.Prelude.{◌≡◌, ℕ, ◌+◌, ◌*◌, ◌≤◌, ◌⊎◌, List, [], Some, length, slice_get, slice_index, sum_by}
use Rattle.plan_terms.specs.Terms.{Case, graph_in, Joins, Link, Routing, Carries, IsUnitPair}
use Rattle.plan_report.specs.Terms.{Plan, Fractional, Tight, Share}
use Rattle.plan_checker.{specs.Places.HoldsAt, specs.declared.finding.Finding.Finding, specs.declared.finding.Finding.TheVariants.NotTight}

-- units of a link's unit pair, over the scale: the capacity that they and the pre-installed one give, and what the units cost; without a
-- module they give and cost 0
pub record IsShareOf (l : Link) (scale units num cost : ℕ) : Type 0 where
  pub pair : ℕ × ℕ
  pub is_pair : IsUnitPair l.modules pair.0 pair.1 ⊎ ((l.modules ≡ []) × (pair ≡ (0, 0)))
  pub gives : num ≡ l.fixed * scale + pair.0 * units
  pub paid : cost ≡ pair.1 * units

-- the capacity of each link in the share, over its scale, and what all links cost, over its scale
pub record GivesShare (links : List Link) (share : Share) (nums : List ℕ) (cost : ℕ) : Type 0 where
  pub costs : List ℕ
  pub nums_count : length nums ≡ length links
  pub costs_count : length costs ≡ length links
  pub each : (e : ℕ) (l : Link) → slice_get links e ≡ Some l → IsShareOf l share.scale (slice_index share.units e) (slice_index nums e) (slice_index costs e)
  pub sum : cost ≡ sum_by (λ c. c) costs

-- in each state a routing carries the demands within the capacities, over the scale
abbrev pub AreCarried : Case → ℕ → List ℕ → List Routing → Type 0
AreCarried p scale nums routings = (s : ℕ) → s ≤ length p.listed → HoldsAt routings s (Carries (Joins (graph_in p s)) p.demands scale nums)

-- the share costs the raw value, and in each state a routing carries the demands within its capacities
pub record IsTight (p : Case) (plan : Plan) (fractional : Fractional) : Type 0 where
  pub nums : List ℕ
  pub cost : ℕ
  pub given : GivesShare p.links fractional.share nums cost
  pub raw : cost * plan.raw_den ≡ plan.raw_num * fractional.share.scale
  pub carried : AreCarried p fractional.share.scale nums fractional.routings

-- the plan claims to be tight, and isn't
abbrev pub HoldsNotTight : Case → Plan → Finding → Type 0
HoldsNotTight p plan NotTight = (f : Fractional) × (plan.quality ≡ Tight f) × (IsTight p plan f → ⊥)
HoldsNotTight p plan _ = ⊥
