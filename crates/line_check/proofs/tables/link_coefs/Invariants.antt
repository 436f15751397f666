use Rattle.std.{proofs.Common.{◌≡◌, map, zip}, specs.List.range_with_len}
use Rattle.line_check.specs.Lines.{capped, weight_of}
use Rattle.line_check.proofs.tables.link_coefs.Given as goal

-- the weights of the modules so far
abbrev pub invariant-loop-m : goal.invariant-loop-m
invariant-loop-m l = l.coefs ≡ map (λ m. weight_of (zip l.kinds l.weights) (capped l.over l.e m)) (range_with_len 0 l.m)
