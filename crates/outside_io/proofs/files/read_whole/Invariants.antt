use Rattle.std.proofs.Common.{◌≤◌, length}
use Rattle.net_core.proofs.Library.{Consumes}
use Rattle.outside_io.proofs.files.read_whole.Given as goal

-- the bytes in the buffer were read, and keep the limit
abbrev pub invariant-loop : goal.invariant-loop
invariant-loop g l = (length l.into ≤ l.limit) × Consumes (g.R.Read.remaining l.fn.file) (g.R.Read.remaining l.file) l.into
