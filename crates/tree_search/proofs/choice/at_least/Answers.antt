use Rattle.std.proofs.Common.{◌≡◌, ap, refl, subst}
use Rattle.net_core.proofs.Networks.{few_links}
use Rattle.module_choice.proofs.Carrying.{network_links}
use Rattle.tree_check.{specs.Terms.{span_at, TreeBox}, specs.declared.boxes.Span.Span}
use Rattle.tree_search.{specs.inner.Choosing.HasFreePlace, proofs.Choices.least_triable}
use Rattle.tree_search.proofs.choice.at_least.Goals as goal

pub returns : goal.returns
returns c =
    let a = c.args.aim.now in
    let net = a.instance.now.net.now in
    let place = c.in-Some.place in
    let least = c.span_at-at.result.least in
    least_triable net.links (few_links net.nodes net.links net.checked)
    (λ k d lt. let sound = network_links net.nodes net.links net.checked k d lt in (sound.few, sound.setup, sound.each)) a.plan.now.cost c.args.boxed.now c.requires
    place _ (subst (λ (box : TreeBox). HasFreePlace box place) c.items.ensures c.in-Some.ensures) refl
    (subst (λ (box : TreeBox). least ≡ (span_at box place.link place.module).least) c.items-2.ensures (ap (λ (s : Span). s.least) c.span_at-at.ensures))
