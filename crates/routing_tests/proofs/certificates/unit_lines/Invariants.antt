use Rattle.std.proofs.Common.{◌<◌, ◌^◌, All}
use Rattle.metric_cut.specs.Bounded.{HaveBound}
use Rattle.routing_tests.proofs.certificates.unit_lines.Given as goal

-- each cut so far can have its own bound
abbrev pub invariant-loop-row : goal.invariant-loop-row
invariant-loop-row l = record {
  bound : All (λ line. HaveBound l.p.net.links line.lengths) l.cuts;
  right : All (λ line. line.right < 2 ^ 84) l.cuts;
}
