use Rattle.std.proofs.Common.{◌≡◌, ℕ, ◌+◌, cond, get_or, length, take}
use Rattle.plan_terms.specs.Terms.{names_link}
use Rattle.greedy_router.proofs.sent_flows.take_along.Given as goal

-- the amount has been taken from the links so far
abbrev pub invariant-loop-e : goal.invariant-loop-e
invariant-loop-e l = record {
  count : length l.spares ≡ length l.initial.spares;
  taken : (e : ℕ) → get_or l.spares e 0 + cond (names_link e (take l.e-index l.path)) l.num 0 ≡ get_or l.initial.spares e 0;
}
