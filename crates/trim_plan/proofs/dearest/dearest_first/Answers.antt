use Rattle.std.proofs.Common.{◌≡◌, ◌<◌, ◌≤◌, ◌∙◌, ◌++◌, AllPairs, List, get_or, length, rules, arith, ap, subst, sym}
use Rattle.net_core.proofs.Library.{IsNonDecreasingBy-from_sort_by_key, all_written}
use Rattle.plan_terms.specs.Terms.{Link}
use Rattle.trim_plan.{specs.Dearest.priced_modules, specs.Trimmed.price_rank, proofs.Pricing.link_put}
use Rattle.trim_plan.proofs.dearest.dearest_first.Goals as goal

pub returns-clause-dearest : goal.returns-clause-dearest
returns-clause-dearest c =
    let rising = IsNonDecreasingBy-from_sort_by_key price_rank _ c.in_ok-sort_by_key.ensures.sorted (λ a r q k. search rules) in
    let len = c.in_ok-sort_by_key.ensures.len ∙ ap length c.items_mut.ensures.value in
    subst (AllPairs (λ a b. price_rank a ≤ price_rank b)) (sym (all_written _ c.sort_by_key.new.self len))
    (λ i j d lt below. rising i j d (omega (arith, lt)) below)

pub loop-e-preserved : goal.loop-e-preserved
loop-e-preserved c =
    let links = c.args.net.now.links in
    let same : c.items-links.result.now ≡ links = c.items-links.ensures ∙ c.links.ensures in
    link_put c.loop-e.e links c.index-links-e.result c.loop-e.priced c.add_modules.new.priced (subst (λ (ls : List Link). c.loop-e.e < length ls) same c.loop-e-test.true)
    (c.in_ok-add_modules.ensures
    ∙ ap (λ ms. c.loop-e.priced ++ priced_modules c.loop-e.e 0 ms) c.items.ensures
    ∙ ap (λ (ls : List Link). c.loop-e.priced ++ priced_modules c.loop-e.e 0 (get_or ls c.loop-e.e c.index-links-e.result).modules) same)
    c.loop-e.invariant
