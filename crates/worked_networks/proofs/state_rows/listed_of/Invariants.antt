use Rattle.std.proofs.Common.{◌≡◌, map, take}
use Rattle.worked_networks.specs.Tables.{failed_of}
use Rattle.worked_networks.proofs.state_rows.listed_of.Given as goal

-- the states of the rows so far
abbrev pub invariant-loop-i : goal.invariant-loop-i
invariant-loop-i l = map failed_of l.listed ≡ map (λ r. r.now) (take l.i l.rows)
