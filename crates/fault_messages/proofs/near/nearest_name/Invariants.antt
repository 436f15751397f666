use Rattle.fault_messages.proofs.NearNames.{IsNearestSoFar}
use Rattle.fault_messages.proofs.near.nearest_name.Given as goal

-- the nearest name so far
abbrev pub invariant-loop-i : goal.invariant-loop-i
invariant-loop-i l = IsNearestSoFar l.name l.names l.i l.nearest.place l.nearest.edits
