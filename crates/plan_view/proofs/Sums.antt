-- what is rerouted, one flow after another
use Rattle.std.proofs.Common.{◌≡◌, ℕ, ◌+◌, ◌<◌, List, ◌∷◌, drop, get_or, length, sym, ap, ◌∙◌}
use Rattle.net_core.proofs.Library.{at_drop_more}
use Rattle.plan_terms.specs.Terms.{Flow, Routing}
use Rattle.plan_view.specs.Reroutes.{rerouted}

-- what is rerouted from a flow on
pub rerouted_from : (normal routing : Routing) (flows : List Flow) (i : ℕ) (f : Flow) → i < length flows → f ≡ get_or flows i f
    → rerouted normal routing (drop i flows) ≡ rerouted normal routing (f ∷ drop (i + 1) flows)
rerouted_from normal routing flows i f lt is =
    at_drop_more (rerouted normal routing) flows i f lt ∙ ap (λ (g : Flow). rerouted normal routing (g ∷ drop (i + 1) flows)) (sym is)
