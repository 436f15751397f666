use Rattle.std.proofs.Common.{◌≡◌, get_or, map}
use Rattle.net_core.proofs.Library.{range_with_len}
use Rattle.sample_net.{specs.Draws.{nth_draw, nth_number}, specs.Samples.sample_demand}
use Rattle.sample_net.proofs.demands.demands_between.Given as goal

-- the demands so far, with one draw each
abbrev pub invariant-loop-k : goal.invariant-loop-k
invariant-loop-k l =
    (l.demands ≡ map (λ k. sample_demand k (get_or l.pairs k (0, 0)) (nth_draw l.fn.draws.number k 40)) (range_with_len 0 l.k))
    × (l.draws.number ≡ nth_number l.fn.draws.number l.k)
