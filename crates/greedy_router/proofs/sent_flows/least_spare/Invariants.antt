use Rattle.std.proofs.Common.{◌≡◌, ◌≤◌, ◌⊎◌, All, Any, get_or, take}
use Rattle.greedy_router.proofs.sent_flows.least_spare.Given as goal

-- the least of the amount and of what is left on the links so far
abbrev pub invariant-loop-e : goal.invariant-loop-e
invariant-loop-e l = record {
  most : l.least ≤ l.most;
  spare : All (λ e. l.least ≤ get_or l.spares e.0 0) (take l.e-index l.path);
  reached : (l.least ≡ l.most) ⊎ Any (λ e. l.least ≡ get_or l.spares e.0 0) l.path;
}
