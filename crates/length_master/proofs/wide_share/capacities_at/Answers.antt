use Rattle.std.proofs.Common.{◌≡◌, ℕ, ◌<◌, ◌++◌, [], ◌∷◌, map, ap, sym, ◌∙◌, subst, arith}
use Rattle.net_core.proofs.Library.{get_or-map, map-range_with_len_more, range_with_len}
use Rattle.plan_terms.specs.Terms.{Link}
use Rattle.module_prices.specs.declared.cheapest.UnitPair.{UnitPair}
use Rattle.length_master.specs.inner.Capacities.{given_at, given_by}
use Rattle.length_master.proofs.wide_share.capacities_at.Goals as goal

same_given : (f c p d f' c' p' d' : ℕ) → f ≡ f' → c ≡ c' → p ≡ p' → d ≡ d' → given_by f c p d ≡ given_by f' c' p' d'
same_given f c p d f' c' p' d' one two three four =
    ap (λ t. given_by t c p d) one ∙ (ap (λ t. given_by f' t p d) two ∙ (ap (λ t. given_by f' c' t d) three ∙ ap (λ t. given_by f' c' p' t) four))

pub loop-e-preserved : goal.loop-e-preserved
loop-e-preserved c =
    let links = c.args.links.now in
    let pairs = c.args.pairs.now in
    let prices = c.args.prices.now in
    let e = c.loop-e.e in
    let inside = c.loop-e-test.true in
    let link_is = get_or-map (λ (l : Link). l.fixed) links e c.index-links-e.result 0 inside ∙ ap (λ (l : Link). l.fixed) (sym c.index-links-e.is) in
    let pair_is = get_or-map (λ (p : UnitPair). p.capacity) pairs e (record { capacity = 0; cost = 0 }) 0 (subst (λ n. e < n) (sym c.requires.pairs) inside) in
    let number = c.capacity_of.ensures ∙ same_given _ _ _ _ _ _ _ _ (sym link_is) (sym pair_is) c.price_at-price.ensures c.size_of_den-scale.ensures.value in
    c.in_ok-push.ensures.ok
    ∙ (ap (λ xs. xs ++ c.capacity_of.result ∷ []) c.loop-e.invariant
    ∙ (ap (λ x. map (given_at links pairs prices) (range_with_len 0 e) ++ x ∷ []) number
    ∙ sym (map-range_with_len_more (given_at links pairs prices) 0 e e (omega arith))))
