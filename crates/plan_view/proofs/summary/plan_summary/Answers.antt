use Rattle.std.proofs.Common.{◌≡◌, ◌^◌, ◌≤◌, List, ℕ, ap, arith, get_or, length, subst, sym, ◌∙◌}
use Rattle.net_core.proofs.Networks.{few_links}
use Rattle.module_choice.proofs.Pairs.{capacities_long}
use Rattle.plan_terms.specs.Terms.{Flow, Routing, case_of, load}
use Rattle.plan_view.{specs.Loads.routing_in, proofs.Plans.{load_low, routing_is}}
use Rattle.plan_view.proofs.summary.plan_summary.Goals as goal

pub total_capacity-requires-clause-few : goal.total_capacity-requires-clause-few
total_capacity-requires-clause-few c =
    omega (arith, few_links c.args.instance.now.net.now.nodes c.args.instance.now.net.now.links c.args.instance.now.net.now.checked, ap (λ (l : List ℕ). length l) (c.items-3.ensures ∙ c.in_ok-caps.ensures.1), capacities_long c.args.instance.now.net.now.links c.args.plan.now.counts c.requires.form.counts)

pub total_load-load-requires-clause-low : goal.total_load-load-requires-clause-low
total_load-load-requires-clause-low c e =
    let p = case_of c.args.instance.now in
    let plan = c.args.plan.now in
    let r = c.index-items-0.result in
    let is : r ≡ routing_in plan.routings 0 = routing_is p plan c.requires 0 r (omega arith) (c.index-items-0.is ∙ ap (λ (xs : List Routing). get_or xs 0 r) c.items.ensures) in
    subst (λ (flows : List Flow). load flows e ≤ 2 ^ 108) (sym (c.items-2.ensures ∙ ap (λ (x : Routing). x.flows) is)) (load_low p plan c.requires 0 e)
