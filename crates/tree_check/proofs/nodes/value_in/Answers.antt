use Rattle.std.proofs.Common.{◌<◌, ◌≤◌, ◌^◌, List, All, length, ap, subst, sym, ◌∙◌, arith}
use Rattle.net_core.proofs.Networks.{few_links}
use Rattle.module_choice.proofs.Carrying.{network_links}
use Rattle.plan_terms.specs.Terms.{IsModule, Link}
use Rattle.tree_check.proofs.NodesHeld.{value_told}
use Rattle.tree_check.proofs.nodes.value_in.Goals as goal

pub cert_value-requires-clause-few : goal.cert_value-requires-clause-few
cert_value-requires-clause-few c =
    let net = c.args.tests.now.instance.now.net.now in
    omega (arith, ap (λ (ls : List Link). length ls) (c.items.ensures ∙ c.links.ensures), few_links net.nodes net.links net.checked)

pub cert_value-requires-clause-sound : goal.cert_value-requires-clause-sound
cert_value-requires-clause-sound c =
    let net = c.args.tests.now.instance.now.net.now in
    subst (All (λ (l : Link). (length l.modules ≤ 16) × (l.setup < 2 ^ 40) × All IsModule l.modules)) (sym (c.items.ensures ∙ c.links.ensures))
    (λ k d lt. let sound = network_links net.nodes net.links net.checked k d lt in (sound.few, sound.setup, sound.each))

pub returns : goal.returns
returns c =
    let told = c.cert_value.ensures in
    value_told c.args.tests.now c.args.boxed.now c.args.cert.now c.items.result.now c.items-2.result.now c.cert_value.result (c.items.ensures ∙ c.links.ensures) c.items-2.ensures told.none told.sound told.value
