-- numbers of tests
use Rattle.std.proofs.Common.{ℕ, Bool, cond}

-- 1 where it is so
abbrev pub one_if : Bool → ℕ
one_if b = cond b 1 0
