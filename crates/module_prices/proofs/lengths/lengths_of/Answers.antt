use Rattle.std.proofs.Common.{◌≡◌, ◌≤◌, ◌++◌, ◌∷◌, [], ◌∙◌, All, ap, arith, get_or, length, length-append, refl, subst, sym}
use Rattle.net_core.proofs.Library.{All-push, slice_get_read, slice_get_within}
use Rattle.plan_terms.specs.Terms.{Link, IsPriceLength}
use Rattle.module_prices.proofs.UnitCosts.{priced_more}
use Rattle.module_prices.proofs.lengths.lengths_of.Goals as goal

pub loop-e-preserved : goal.loop-e-preserved
loop-e-preserved c =
    let links = c.args.links.now in
    let l = c.index-links-e.result in
    let new : c.push.new.self ≡ c.loop-e.lengths ++ c.price_length.result ∷ [] = c.in_ok-push.ensures.ok in
    let price : IsPriceLength c.args.dearest.now l.modules c.price_length.result = subst (λ ms. IsPriceLength c.args.dearest.now ms c.price_length.result) (c.items.ensures ∙ ap (λ (x : Link). x.modules) (sym c.index-links-e.is)) c.price_length.ensures.exact in
    let at = slice_get_read links (length links) c.loop-e.e l refl c.loop-e-test.true c.index-links-e.is in
    record {
      count = omega (arith, ap length new, length-append c.loop-e.lengths (c.price_length.result ∷ []), c.loop-e.invariant.count);
      each = λ e k lt got. subst (λ ns. IsPriceLength c.args.dearest.now k.modules (get_or ns e 0)) (sym new) (priced_more links c.args.dearest.now c.loop-e.lengths c.loop-e.e l c.price_length.result c.loop-e.invariant.count at price c.loop-e.invariant.each e k lt got);
      small = subst (λ ns. All (λ n. n ≤ 16) ns) (sym new) (All-push (λ n. n ≤ 16) c.loop-e.lengths c.price_length.result c.loop-e.invariant.small c.price_length.ensures.small);
    }

pub returns : goal.returns
returns c = record {
  count = omega (arith, c.loop-e.invariant.count, c.loop-e-test.false, c.loop-e.auto.e-end);
  each = λ e l at. c.loop-e.invariant.each e l (omega (arith, slice_get_within c.args.links.now e l at, c.loop-e-test.false)) at;
  small = c.loop-e.invariant.small;
}
