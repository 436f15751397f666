use Rattle.std.proofs.Common.{◌≡◌, ℕ, ◌+◌, ◌-◌, ◌*◌, ◌%◌, ap, ◌∙◌}
use Rattle.sample_net.{specs.Draws.{drawn, nth_number}, specs.Samples.chord_ends, proofs.Sequence.{one_more, step_more}}
use Rattle.sample_net.proofs.ends.chords.Goals as goal

pub loop-c-preserved : goal.loop-c-preserved
loop-c-preserved c =
    let n = c.args.n in
    let k = c.loop-c.c in
    let step : c.below.new.self.number ≡ nth_number c.args.draws.now.number (k + 1) =
    step_more c.args.draws.now.number c.loop-c.draws.number c.below.new.self.number k c.below.ensures.number c.loop-c.invariant.1 in (
      rw (c.in_ok-push.ensures.ok) (
          one_more (chord_ends c.args.draws.now.number n) c.loop-c.ends k _ c.loop-c.invariant.0
          (ap (λ (d : ℕ). (2 * k, (2 * k + 2 + d) % n)) (c.below.ensures.value ∙ ap (λ x. drawn x (n - 3)) step))
          ),
      step,
    )
