use Rattle.std.proofs.Common.{All}
use Rattle.box_program.specs.Solutions.{IsFrom, IsMultiplierOf}
use Rattle.box_program.proofs.certificate.multipliers_of.Given as goal

-- the multipliers so far
abbrev pub invariant-loop-term : goal.invariant-loop-term
invariant-loop-term l = All (IsMultiplierOf l.lines) l.multipliers × All (IsFrom l.first) l.multipliers
