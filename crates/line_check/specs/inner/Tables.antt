-- what the code of table lines has so far
use Rattle.std.specs.Prelude.{◌≡◌, ◌↔◌, ℕ, ◌+◌, ◌<◌, ◌≤◌, List, Contains, length, slice_index, take}
use Rattle.plan_terms.specs.Terms.{Link}
use Rattle.line_check.{specs.CoverWeights.IsLeastWeight, specs.Inequalities.module_number, specs.Lines.{GivesSome, capped}, specs.declared.inequality.Inequality.Inequality}

-- some of the first modules of a link gives this number
abbrev pub GivesOn : Inequality → ℕ → ℕ → ℕ → Type 0
GivesOn over e modules n = (m : ℕ) × (m < modules) × (capped over e m ≡ n)

-- some module of the first links gives this number
abbrev pub GivesAmong : List Link → Inequality → ℕ → ℕ → Type 0
GivesAmong links over count n = (e : ℕ) × (m : ℕ) × (e < count) × (m < module_number links e) × (capped over e m ≡ n)

-- the kinds up to a number, rising
pub record AreKindsTo (links : List Link) (over : Inequality) (last : ℕ) (kinds : List ℕ) : Type 0 where
  pub rising : (i j : ℕ) → i < j → j < length kinds → slice_index kinds i < slice_index kinds j
  pub each : (n : ℕ) → Contains kinds n ↔ ((0 < n) × (n ≤ last) × GivesSome links over n)

-- the least weights of covers by the first kinds
pub record AreLeast (kinds weights : List ℕ) (need : ℕ) (least : List ℕ) : Type 0 where
  pub same : length least ≡ length kinds
  pub each : (k : ℕ) → k < length kinds → IsLeastWeight (take (k + 1) kinds) (take (k + 1) weights) need (slice_index least k)
