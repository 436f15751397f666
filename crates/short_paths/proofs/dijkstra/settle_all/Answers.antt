use Rattle.std.proofs.Common.{◌^◌, arith}
use Rattle.short_paths.{proofs.ForwardStars.arc_within, proofs.Settling.{search_init, search_turn, search_end}}
use Rattle.short_paths.proofs.dijkstra.settle_all.Goals as goal

pub loop-at-init : goal.loop-at-init
loop-at-init c = search_init _ _ _ _ _ _ c.requires.sizes (λ k. omega (arith, c.type_inv.found k)) c.requires.start c.requires.others c.requires.unset

pub loop-at-preserved : goal.loop-at-preserved
loop-at-preserved c = search_turn _ _ _ _ _ _ _ _ (record {
  sizes = omega arith;
  same = omega arith;
  node = c.in-Some.ensures.open.0;
  still = c.in-Some.ensures.open.1;
  found = c.in-Some.ensures.near;
  least = c.in-Some.ensures.least;
  lower = c.relax.ensures.lower;
  all = c.relax.ensures.all;
  sound = c.relax.ensures.sound;
}) c.loop-at.invariant

pub relax-requires-clause-near : goal.relax-requires-clause-near
relax-requires-clause-near c = omega (arith, c.loop-at.invariant.low (2 ^ 100) (λ e. omega (arith, c.requires.lengths.short e)) c.in-Some.at.0 c.in-Some.ensures.near)

pub returns : goal.returns
returns c = search_end _ _ _ _ _ _ (omega arith) (omega arith) (omega arith)
    c.requires.lengths.short
    (λ e x y h. omega (arith, (arc_within _ _ e x y c.args.star.now.within h).0))
    c.in_default.ensures.none c.loop-at.invariant
