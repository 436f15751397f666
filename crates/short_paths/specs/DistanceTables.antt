-- what a table says of each two nodes
use Rattle.std.specs.Prelude.{◌≡◌, ℕ, ◌<◌, List, Option}
use Rattle.plan_terms.specs.Terms.{IsDistance}
use Rattle.short_paths.{specs.declared.distance_table.DistanceTable.DistanceTable, specs.inner.Pairs.pair_distance}

-- the distance of two nodes that the table answers, if it answers one
abbrev pub distance_at : DistanceTable → ℕ → ℕ → Option ℕ
distance_at t a b = pair_distance t.pairs a b

-- the table of n nodes has the distance of each two
pub record AreAllDistances (joins : ℕ → ℕ → ℕ → Type 0) (lengths : List ℕ) (n : ℕ) (t : DistanceTable) : Type 0 where
  pub count : t.nodes ≡ n
  pub each : (a b : ℕ) → a < n → b < n → IsDistance joins lengths a b (distance_at t a b)
