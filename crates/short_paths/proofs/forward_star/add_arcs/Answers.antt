use Rattle.std.proofs.Common.{refl, inl, inr}
use Rattle.plan_terms.proofs.Lemmas.{joins_from, joins_ends}
use Rattle.short_paths.proofs.ForwardStars.{adds_both}
use Rattle.short_paths.proofs.forward_star.add_arcs.Goals as goal

pub returns : goal.returns
returns c =
    let l = c.index-items-link.result in
    let alive = c.has.ensures.0 c.if-not-has.false in
    let is = rw (c.items.ensures, c.links.ensures) at c.index-items-link.is in
    rw c.in_ok-extend_from_slice.ensures.items (adds_both _ c.args.link.0 l.a.0 l.b.0 _
    (joins_from _ _ _ _ l c.requires is alive (inl (refl, refl)))
    (joins_from _ _ _ _ l c.requires is alive (inr (refl, refl)))
    (λ x y j. joins_ends _ _ x y l c.requires is j))
