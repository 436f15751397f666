use Rattle.std.proofs.Common.{◌≡◌, length}
use Rattle.separator.proofs.Rooms.{AreRoomy}
use Rattle.separator.proofs.roomy_sets.with_room.Given as goal

-- the numbers so far
abbrev pub invariant-loop-num : goal.invariant-loop-num
invariant-loop-num l = (length l.nums ≡ l.num-index) × AreRoomy l.caps.nums l.caps.scale l.num-index l.nums
