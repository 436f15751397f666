use Rattle.std.proofs.Common.{ℕ, ◌+◌, ◌*◌, get_or}
use Rattle.sample_net.{specs.Draws.nth_draw, specs.Samples.sample_link, proofs.Sequence.one_more, proofs.Takes.{link_taken, two_more}}
use Rattle.sample_net.proofs.links.links_between.Goals as goal

pub loop-e-preserved : goal.loop-e-preserved
loop-e-preserved c =
    let x = c.args.draws.now.number in
    let ends = c.args.ends.now in
    let e = c.loop-e.e in (
      rw (c.in_ok-push.ensures.ok) (
          one_more (λ (k : ℕ). sample_link k (get_or ends k (0, 0)) (nth_draw x (2 * k) 80) (nth_draw x (2 * k + 1) 200)) c.loop-e.links e c.in_ok-link.field-0 c.loop-e.invariant.0
          (link_taken x c.loop-e.draws.number e (get_or ends e (0, 0)) c.in_ok-link.field-0 c.loop-e.invariant.1 c.in_ok-link.ensures.link)
          ),
      two_more x c.loop-e.draws.number _ e c.loop-e.invariant.1 c.in_ok-link.ensures.draws,
    )
