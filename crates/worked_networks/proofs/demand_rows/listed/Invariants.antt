use Rattle.std.proofs.Common.{◌≡◌, map, take}
use Rattle.worked_networks.specs.Tables.{row_of}
use Rattle.worked_networks.proofs.demand_rows.listed.Given as goal

-- the demands of the rows so far
abbrev pub invariant-loop-k : goal.invariant-loop-k
invariant-loop-k l = map row_of l.demands ≡ take l.k l.rows
