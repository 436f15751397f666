use Rattle.std.proofs.Common.{arith}
use Rattle.short_paths.proofs.TightLinks.{follows_push, next_nearer}
use Rattle.short_paths.proofs.tight_links.follow.Goals as goal

pub loop-to-smaller : goal.loop-to-smaller
loop-to-smaller c = next_nearer _ _ _ _ _ c.requires.leads _ _ _ c.in-Some.ensures.1

pub loop-to-preserved : goal.loop-to-preserved
loop-to-preserved c =
    let down = next_nearer _ _ _ _ _ c.requires.leads _ _ _ c.in-Some.ensures.1 in
    record {
      inside = c.in-Some.ensures.0;
      near = omega (arith, down, c.loop-to.invariant.near);
      done = rw c.in_ok-push.ensures.ok (follows_push _ _ _ _ _ _ _ _ c.loop-to.invariant.done c.in-Some.ensures.1);
    }
