use Rattle.std.proofs.Common.{ap, length, arith}
use Rattle.plan_terms.proofs.Lemmas.{joins_below}
use Rattle.short_paths.proofs.ForwardStars.{arcs_more, arcs_all}
use Rattle.short_paths.proofs.forward_star.surviving_arcs.Goals as goal

pub loop-e-preserved : goal.loop-e-preserved
loop-e-preserved c =
    arcs_more _ _ _ _ c.loop-e.invariant c.in_ok-add_arcs.ensures

pub returns : goal.returns
returns c = arcs_all _ _ _ (λ e x y j. omega (arith, joins_below _ e x y j, ap length c.links.ensures, c.len-links.ensures)) c.loop-e.invariant
