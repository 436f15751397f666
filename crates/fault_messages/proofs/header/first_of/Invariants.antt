use Rattle.std.proofs.Common.{◌≡◌, drop}
use Rattle.fault_messages.specs.Headers.{first_beginning}
use Rattle.fault_messages.proofs.header.first_of.Given as goal

-- the file begins in none of the ways so far
abbrev pub invariant-loop-beginning : goal.invariant-loop-beginning
invariant-loop-beginning l = first_beginning l.bytes (drop l.beginning-index l.beginnings) ≡ first_beginning l.bytes l.beginnings
