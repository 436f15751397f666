use Rattle.std.proofs.Common.{◌≡◌, ◌∙◌, ◌+◌, List, ◌<◌, ◌^◌, ℕ, All, ap, arith, get_or, length, subst, sym}
use Rattle.plan_terms.specs.Terms.{graph_in, Joins, case_of, Flow, LinkId, IsLeastRouting}
use Rattle.net_core.proofs.Networks.{few_nodes}
use Rattle.module_choice.{specs.inner.Routes.{AreRouted, weight}, proofs.Carrying.{few_flows, flows_small, least_flows, links_known, network_links, routed_more}}
use Rattle.module_choice.proofs.fallback.route_next.Goals as goal

pub route_state-requires-clause-long : goal.route_state-requires-clause-long
route_state-requires-clause-long c = c.requires.long c.len.result

pub loads_of-requires-clause-few : goal.loads_of-requires-clause-few
loads_of-requires-clause-few c =
    let p = case_of c.args.instance.now in
    let few = few_flows (Joins (graph_in p c.len.result)) c.args.lengths.now p.demands c.in_ok-routing.routing c.in_ok-routing.ensures.routed in
    omega (arith, few, ap length c.items.ensures, c.args.instance.now.belong.few)

pub loads_of-requires-clause-known : goal.loads_of-requires-clause-known
loads_of-requires-clause-known c =
    let p = case_of c.args.instance.now in
    let g = graph_in p c.len.result in
    let r = c.in_ok-routing.routing in
    let flows = least_flows (Joins g) c.args.lengths.now p.demands r c.in_ok-routing.ensures.routed in
    let count : c.len-2.result ≡ length p.links = c.len-2.ensures ∙ ap length c.links.ensures in
    subst (λ n. All (λ f. All (λ (x : LinkId). x.0 < n) f.path) c.items.result.now) (sym count) (subst (λ (fs : List Flow). All (λ f. All (λ (x : LinkId). x.0 < length p.links) f.path) fs) (sym c.items.ensures) (links_known g p.demands r.flows flows))

pub loads_of-requires-clause-small : goal.loads_of-requires-clause-small
loads_of-requires-clause-small c =
    let p = case_of c.args.instance.now in
    let checked = c.args.instance.now.net.now.checked in
    subst (λ (fs : List Flow). All (λ f. (f.num < 2 ^ 40) × (length f.path < 2 ^ 8)) fs) (sym c.items.ensures)
    (flows_small (graph_in p c.len.result) (length p.nodes) c.args.lengths.now p.demands c.in_ok-routing.routing (few_nodes p.nodes p.links checked) (network_links p.nodes p.links checked) c.args.instance.now.belong c.in_ok-routing.ensures.routed)

pub returns : goal.returns
returns c =
    let p = case_of c.args.instance.now in
    let r = c.in_ok-routing.routing in
    let count : c.len-2.result ≡ length p.links = c.len-2.ensures ∙ ap length c.links.ensures in
    let least : IsLeastRouting (Joins (graph_in p (length c.args.routings.now))) c.args.lengths.now p.demands r = subst (λ s. IsLeastRouting (Joins (graph_in p s)) c.args.lengths.now p.demands r) c.len.ensures c.in_ok-routing.ensures.routed in
    let loaded : (e : ℕ) → e < length p.links → get_or c.deref.result.now e 0 ≡ weight r.flows e =
    λ e lt. ap (λ xs. get_or xs e 0) c.deref.ensures.value ∙ c.in_ok-loads.ensures.1 e (omega (arith, lt, count)) ∙ ap (λ fs. weight fs e) c.items.ensures in
    subst (λ rs. AreRouted p c.args.lengths.now (length c.args.routings.now + 1) rs c.raise.new.peaks) (sym c.in_ok-push.ensures.ok)
    (routed_more p c.args.lengths.now (length c.args.routings.now) c.args.routings.now r c.args.peaks.now c.deref.result.now c.raise.new.peaks c.requires.routed least (omega (arith, c.in_ok-routing.ensures.total, c.args.instance.now.belong.total)) loaded (omega arith) c.raise.ensures)
