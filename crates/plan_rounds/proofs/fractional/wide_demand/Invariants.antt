use Rattle.std.proofs.Common.{◌*◌, ◌^◌, ◌<◌, All, take}
use Rattle.plan_rounds.proofs.fractional.wide_demand.Given as goal

-- the needs so far are narrow
abbrev pub invariant-loop-k : goal.invariant-loop-k
invariant-loop-k l = All (λ d. d.need * l.scale < 2 ^ 62) (take l.k l.demands)
