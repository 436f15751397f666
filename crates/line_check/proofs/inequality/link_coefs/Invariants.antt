use Rattle.std.proofs.Common.{◌≡◌, ◌*◌, map, take}
use Rattle.line_check.proofs.inequality.link_coefs.Given as goal

-- the coefficients so far
abbrev pub invariant-loop-m : goal.invariant-loop-m
invariant-loop-m l = l.coefs ≡ map (λ m. l.far * m.capacity) (take l.m-index l.modules)
