use Rattle.std.proofs.Common.{◌<◌, ◌^◌, ◌-◌, length, get_or}
use Rattle.short_paths.{specs.inner.TightLinks.Follows, specs.inner.ForwardStars.HasArc}
use Rattle.short_paths.proofs.tight_links.follow.Given as goal

abbrev pub invariant-loop-to : goal.invariant-loop-to
invariant-loop-to l = record {
  inside : l.at.0 < length l.back;
  near : get_or l.back l.at.0 0 < 2 ^ 128 - 1;
  done : Follows (HasArc l.star.arcs) l.lengths l.back l.at.0 l.fn.from.0 l.path;
}

-- how far it is still
abbrev pub decreases-loop-to : goal.decreases-loop-to
decreases-loop-to l = get_or l.back l.at.0 0
