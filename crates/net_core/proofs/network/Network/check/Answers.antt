use Rattle.std.proofs.Common.{◌≡◌, None, Some, subst, sym, ◌∙◌}
use Rattle.net_core.{specs.Network.network_fault, proofs.NetworkChecks.sound_network, proofs.Accepted.network_accepted}
use Rattle.net_core.proofs.network.Network.check.Goals as goal

pub invariant_of-result : goal.invariant_of-result
invariant_of-result c =
    let none : network_fault c.items.result.now c.items-2.result.now ≡ None = sym c.network_fault.ensures ∙ c.in-None.is in
    let of_nodes = subst (λ nodes. network_fault nodes c.items-2.result.now ≡ None) c.items.ensures none in
    let of_parts = subst (λ links. network_fault c.args.nodes links ≡ None) c.items-2.ensures of_nodes in
    record { checked = ∣ sound_network c.args.nodes c.args.links of_parts ∣₁ }

pub returns-in-Some-clause-accepted : goal.returns-in-Some-clause-accepted
returns-in-Some-clause-accepted c = λ sound.
    let of_parts = subst (λ nodes. network_fault nodes c.items-2.result.now ≡ None) (sym c.items.ensures) (subst (λ links. network_fault c.args.nodes links ≡ None) (sym c.items-2.ensures) (network_accepted c.args.nodes c.args.links sound)) in
    let none : Some c.in-Some.fault ≡ None = sym c.in-Some.is ∙ (c.network_fault.ensures ∙ of_parts) in
    absurd (cc)
