use Rattle.std.proofs.Common.{◌≡◌, ◌-◌, ◌^◌, min, take}
use Rattle.table_maker.specs.Made.{given_at}
use Rattle.table_maker.proofs.missed.given_at.Given as goal

-- the sum over the modules so far
abbrev pub invariant-loop-x : goal.invariant-loop-x
invariant-loop-x l = l.sum ≡ min (given_at (take l.x-index l.point) l.line) (2 ^ 128 - 1)
