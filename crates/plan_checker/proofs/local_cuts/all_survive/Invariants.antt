use Rattle.std.proofs.Common.{ℕ, ◌<◌, ◌≢◌, get_or}
use Rattle.plan_terms.specs.Terms.{Survives, graph_of}
use Rattle.plan_checker.proofs.local_cuts.all_survive.Given as goal

-- the links so far survive, where their length is positive
abbrev pub invariant-loop-e : goal.invariant-loop-e
invariant-loop-e l = let g = graph_of l.graph in (e : ℕ) → e < l.e → get_or l.lengths e 0 ≢ 0 → Survives g e
