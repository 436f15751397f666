use Rattle.std.proofs.Common.{◌≡◌, ◌<◌, ◌≤◌, ◌∙◌, ◌+◌, All, Some, ap, arith, get_or, length, slice_get, slice_index, subst, sym}
use Rattle.net_core.proofs.Library.{slice_get_within}
use Rattle.plan_terms.specs.Terms.{IsModule, case_of, raised}
use Rattle.module_choice.{specs.inner.Routes.{AreCovered, AreRouted}, proofs.Falling.{covered_narrow, covered_shape, falls, fixed_small, modules_sound, raised_positive, unserved}}
use Rattle.module_choice.proofs.fallback.fallback_of.Goals as goal

pub route_states-requires-clause-long : goal.route_states-requires-clause-long
route_states-requires-clause-long c s e v =
    let prices = c.in_ok-prices.prices in
    let lengths : c.in_ok-lengths.lengths ≡ raised prices = c.in_ok-lengths.ensures ∙ ap raised c.items.ensures in
    let inside : e < length prices = omega (arith, slice_get_within c.args.instance.now.net.now.links e v.link v.at, c.in_ok-prices.ensures.prices.count) in
    subst (λ ls. 0 < get_or ls e 0) (sym lengths) (raised_positive prices e inside)

pub cover_links-requires-clause-each : goal.cover_links-requires-clause-each
cover_links-requires-clause-each c =
    let net = c.args.instance.now.net.now in
    subst (All (λ l. (length l.modules ≤ 16) × All IsModule l.modules)) (sym (c.items-2.ensures ∙ c.links.ensures)) (modules_sound net.nodes net.links net.checked)

pub cover_links-requires-clause-served : goal.cover_links-requires-clause-served
cover_links-requires-clause-served c e l at none =
    let p = case_of c.args.instance.now in
    let routed = c.in_ok-routed.routed in
    let nothing = unserved p c.in_ok-lengths.lengths (length p.listed + 1) routed.routings routed.peaks c.in_ok-routed.ensures e l (subst (λ ls. slice_get ls e ≡ Some l) (c.items-2.ensures ∙ c.links.ensures) at) none in
    omega (arith, nothing, ap (λ ps. get_or ps e 0) c.items-3.ensures)

pub cost-cost-requires : goal.cost-cost-requires
cost-cost-requires c =
    let links = c.args.instance.now.net.now.links in
    let same = c.items-2.ensures ∙ c.links.ensures in
    covered_shape links (slice_index c.items-3.result.now) c.in_ok-counts.counts (subst (λ ls. AreCovered ls (slice_index c.items-3.result.now) c.in_ok-counts.counts) same c.in_ok-counts.ensures)

pub returns-clause-fallback : goal.returns-clause-fallback
returns-clause-fallback c =
    let p = case_of c.args.instance.now in
    let prices = c.in_ok-prices.prices in
    let routed = c.in_ok-routed.routed in
    let lengths : c.in_ok-lengths.lengths ≡ raised prices = c.in_ok-lengths.ensures ∙ ap raised c.items.ensures in
    let all : AreRouted p (raised prices) (length p.listed + 1) routed.routings routed.peaks =
    subst (λ ls. AreRouted p ls (length p.listed + 1) routed.routings routed.peaks) lengths c.in_ok-routed.ensures in
    let covered : AreCovered p.links (slice_index routed.peaks) c.in_ok-counts.counts =
    subst (λ ps. AreCovered p.links (slice_index ps) c.in_ok-counts.counts) c.items-3.ensures (subst (λ ls. AreCovered ls (slice_index c.items-3.result.now) c.in_ok-counts.counts) (c.items-2.ensures ∙ c.links.ensures) c.in_ok-counts.ensures) in
    falls p prices routed.routings routed.peaks c.in_ok-counts.counts c.cost-cost.result c.in_ok-prices.ensures.prices all covered c.cost-cost.ensures

pub returns-clause-narrow : goal.returns-clause-narrow
returns-clause-narrow c =
    let net = c.args.instance.now.net.now in
    covered_narrow net.links (slice_index c.items-3.result.now) c.in_ok-counts.counts (fixed_small net.nodes net.links net.checked) (subst (λ ls. AreCovered ls (slice_index c.items-3.result.now) c.in_ok-counts.counts) (c.items-2.ensures ∙ c.links.ensures) c.in_ok-counts.ensures)
