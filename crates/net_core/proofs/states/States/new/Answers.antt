use Rattle.std.proofs.Common.{◌≡◌, None, Some, length, ap, refl, subst, sym, ◌∙◌}
use Rattle.net_core.{specs.States.{states_fault, AreStates}, proofs.StatesChecks.sound_states, proofs.Accepted.states_accepted}
use Rattle.net_core.proofs.states.States.new.Goals as goal

pub invariant_of-result : goal.invariant_of-result
invariant_of-result c =
    let none : states_fault c.len.result c.items.result.now ≡ None = sym c.states_fault.ensures ∙ c.in-None.is in
    let of_list = subst (λ listed. states_fault c.len.result listed ≡ None) c.items.ensures none in
    record { checked = ∣ (sound_states c.len.result c.args.listed of_list).checked ∣₁ }

pub returns-in-None-clause-list : goal.returns-in-None-clause-list
returns-in-None-clause-list c =
    let none : states_fault c.len.result c.items.result.now ≡ None = sym c.states_fault.ensures ∙ c.in-None.is in
    let of_list = subst (λ listed. states_fault c.len.result listed ≡ None) c.items.ensures none in
    let count : c.len.result ≡ length c.args.net.now.links = c.len.ensures ∙ ap length c.links.ensures in
    (refl, subst (λ n. AreStates n c.args.listed) count (sound_states c.len.result c.args.listed of_list))

pub returns-in-Some-clause-accepted : goal.returns-in-Some-clause-accepted
returns-in-Some-clause-accepted c = λ sound.
    let count : c.len.result ≡ length c.args.net.now.links = c.len.ensures ∙ ap length c.links.ensures in
    let of_items = subst (λ listed. states_fault c.len.result listed ≡ None) (sym c.items.ensures) (states_accepted c.len.result c.args.listed (subst (λ n. AreStates n c.args.listed) (sym count) sound)) in
    let none : Some c.in-Some.fault ≡ None = sym c.in-Some.is ∙ (c.states_fault.ensures ∙ of_items) in
    absurd (cc)
