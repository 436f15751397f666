use Rattle.std.proofs.Common.{◌≡◌, drop, zip}
use Rattle.line_check.specs.Lines.{weight_of}
use Rattle.line_check.proofs.tables.weight_of.Given as goal

-- the weight is among those that are left
abbrev pub invariant-loop-k : goal.invariant-loop-k
invariant-loop-k l = weight_of (zip l.kinds l.weights) l.n ≡ weight_of (zip (drop l.k l.kinds) (drop l.k l.weights)) l.n
