use Rattle.std.proofs.Common.{◌<◌, All, get_or, take}
use Rattle.greedy_router.proofs.sent_flows.is_open.Given as goal

-- the links so far aren't full
abbrev pub invariant-loop-e : goal.invariant-loop-e
invariant-loop-e l = All (λ e. 0 < get_or l.spares e.0 0) (take l.e-index l.path)
