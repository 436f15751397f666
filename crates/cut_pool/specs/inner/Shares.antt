-- what one demand asks of cuts, before and after an edit
use Rattle.std.specs.Prelude.{◌≡◌, ℕ, ◌+◌, ◌*◌, ◌<◌, ◌^◌, List, Option, None, Some, IfSome, sum_by, unwrap_or}
use Rattle.plan_terms.specs.Terms.{Demand, Edit, Add, Drop, Set, without}
use Rattle.short_paths.{specs.declared.distance_table.DistanceTable.DistanceTable, specs.DistanceTables.distance_at}
use Rattle.metric_cut.specs.inner.Rights.{part_of}
use Rattle.cut_pool.specs.declared.shares.DemandShare.{DemandShare}

-- the name that an edit speaks of
abbrev pub edit_name : Edit → List ℕ
edit_name (Set name need) = name
edit_name (Add name from to need) = name
edit_name (Drop name) = name

-- what a share asks for: its need times the distance of its ends; ends that are apart count 0
abbrev pub asked_by : DistanceTable → Option DemandShare → ℕ
asked_by table None = 0
asked_by table (Some s) = s.need * unwrap_or (distance_at table s.from.0 s.to.0) 0

-- the ends are two of n nodes, and the need is below 2^40 units
abbrev pub IsShareOfDemand : ℕ → Option DemandShare → Type 0
IsShareOfDemand n share = IfSome share (λ s. (s.from.0 < n) × (s.to.0 < n) × (s.need < 2 ^ 40))

-- whatever the distances, the share asks for what the demands ask for beyond those of other names
abbrev pub IsShareIn : List ℕ → List Demand → Option DemandShare → Type 0
IsShareIn name demands share = (table : DistanceTable) → sum_by (part_of table) demands ≡ asked_by table share + sum_by (part_of table) (without name demands)
