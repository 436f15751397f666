use Rattle.std.proofs.Common.{List, ℕ, ◌++◌, ◌∙◌, ap, codes, subst}
use Rattle.fault_messages.specs.NearNames.{IsNearestNote}
use Rattle.people_views.specs.StateForms.{state_hint}
use Rattle.people_views.proofs.states.unknown_text.Goals as goal

pub returns : goal.returns
returns c =
    let said = c.in_ok-put_unknown.ensures in
    let near = c.in_ok-put_nearest_note.ensures in (
      said.0,
      near.0,
      said.1,
      subst (λ (names : List (List ℕ)). IsNearestNote c.args.name.now names near.0) (c.items.ensures ∙ c.in_ok-names.ensures) near.1,
      near.2 ∙ ap (λ t. t ++ near.0) (said.2 ∙ ap (λ t. t ++ (codes "no state has the name " ++ said.0 ++ state_hint)) c.new-text.ensures),
    )
