use Rattle.std.proofs.Common.{◌≡◌, ◌*◌, ◌+◌, get_or, map}
use Rattle.net_core.proofs.Library.{range_with_len}
use Rattle.sample_net.{specs.Draws.{nth_draw, nth_number}, specs.Samples.sample_link}
use Rattle.sample_net.proofs.links.links_between.Given as goal

-- the links so far, with two draws each
abbrev pub invariant-loop-e : goal.invariant-loop-e
invariant-loop-e l =
    (l.links ≡ map (λ e. sample_link e (get_or l.ends e (0, 0)) (nth_draw l.fn.draws.number (2 * e) 80) (nth_draw l.fn.draws.number (2 * e + 1) 200)) (range_with_len 0 l.e))
    × (l.draws.number ≡ nth_number l.fn.draws.number (2 * l.e))
