use Rattle.std.proofs.Common.{◌≤◌, length, take}
use Rattle.net_core.proofs.Library.{Appends}
use Rattle.outside_io.proofs.stream.write_whole.Given as goal

-- the bytes up to here were taken
abbrev pub invariant-loop : goal.invariant-loop
invariant-loop g l = (l.done ≤ length l.piece) × Appends (g.W.Write.contents l.fn.out) (g.W.Write.contents l.out) (take l.done l.piece)
