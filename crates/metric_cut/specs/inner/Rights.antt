-- right sides by a table of distances
use Rattle.std.specs.Prelude.{ℕ, ◌*◌, unwrap_or}
use Rattle.plan_terms.specs.Terms.{Demand}
use Rattle.short_paths.{specs.declared.distance_table.DistanceTable.DistanceTable, specs.DistanceTables.distance_at}

-- the need of a demand times the distance of its ends; ends that are apart count 0
abbrev pub part_of : DistanceTable → Demand → ℕ
part_of table d = d.need * unwrap_or (distance_at table d.from.0 d.to.0) 0
