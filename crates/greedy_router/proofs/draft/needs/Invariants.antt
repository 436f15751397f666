use Rattle.std.proofs.Common.{◌≡◌, ◌*◌, map, take}
use Rattle.greedy_router.proofs.draft.needs.Given as goal

abbrev pub invariant-loop-d : goal.invariant-loop-d
invariant-loop-d l = l.all ≡ map (λ d. d.need * l.scale) (take l.d-index l.demands)
