use Rattle.std.proofs.Common.{◌<◌, All, take}
use Rattle.plan_terms.specs.Terms.{sent}
use Rattle.plan_checker.specs.inner.Mixed.{AreMixed}
use Rattle.plan_checker.proofs.sums.add_flows.Given as goal

-- the flows so far are summed
abbrev pub invariant-loop-f : goal.invariant-loop-f
invariant-loop-f l = record {
  each : All (λ m. m.rest < l.den) l.sums;
  sum : AreMixed l.den (sent (take l.f-index l.flows)) l.sums;
}
