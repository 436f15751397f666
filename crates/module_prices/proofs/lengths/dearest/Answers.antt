use Rattle.std.proofs.Common.{◌∙◌, ap, length, refl, subst, sym}
use Rattle.net_core.proofs.Library.{slice_get_read}
use Rattle.plan_terms.specs.Terms.{Link}
use Rattle.module_prices.{specs.inner.Dearest.IsDearer, proofs.UnitCosts.dearest_more}
use Rattle.module_prices.proofs.lengths.dearest.Goals as goal

pub loop-e-preserved : goal.loop-e-preserved
loop-e-preserved c =
    let links = c.args.links.now in
    let l = c.index-links-e.result in
    dearest_more links c.loop-e.e l c.loop-e.dearest c.dearer-dearest.result (slice_get_read links (length links) c.loop-e.e l refl c.loop-e-test.true c.index-links-e.is) c.loop-e.invariant (subst (λ ms. IsDearer ms c.loop-e.dearest c.dearer-dearest.result) (c.items.ensures ∙ ap (λ (x : Link). x.modules) (sym c.index-links-e.is)) c.dearer-dearest.ensures)
