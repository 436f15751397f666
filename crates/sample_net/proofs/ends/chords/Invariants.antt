use Rattle.std.proofs.Common.{◌≡◌, map}
use Rattle.net_core.proofs.Library.{range_with_len}
use Rattle.sample_net.{specs.Draws.nth_number, specs.Samples.chord_ends}
use Rattle.sample_net.proofs.ends.chords.Given as goal

-- the chords so far, with one draw each
abbrev pub invariant-loop-c : goal.invariant-loop-c
invariant-loop-c l =
    (l.ends ≡ map (chord_ends l.fn.draws.number l.n) (range_with_len 0 l.c))
    × (l.draws.number ≡ nth_number l.fn.draws.number l.c)
