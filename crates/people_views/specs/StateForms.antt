-- states that are shown by their names, and what is said of a name that none has
use Rattle.std.specs.Prelude.{◌≡◌, ℕ, List, ◌∷◌, ◌++◌, codes, map}
use Rattle.outside_io.{specs.declared.status.Status.Status, specs.declared.status.Status.TheVariants.BadWords}
use Rattle.fault_texts.specs.Quotes.{IsQuote}
use Rattle.fault_messages.specs.NearNames.{IsNearestNote}
use Rattle.plan_terms.specs.Terms.{Listed}
use Rattle.view_state.specs.Terms.{IsNamedState}
use Rattle.people_views.{specs.declared.form.ViewForm.ViewForm, specs.declared.form.ViewForm.TheVariants.{Picture, State}}

-- the names of all states, the one without failures first
abbrev pub state_names : List Listed → List (List ℕ)
state_names listed = codes "none" ∷ map (λ l. l.name) listed

-- the end of a line, and one that tells which names states have
abbrev pub state_hint : List ℕ
state_hint = codes "\n  a state is none, where nothing fails, or one of the failures by its name\n"

-- what is said of a name that no state has, with a near one
abbrev pub IsStateMessage : List Listed → List ℕ → List ℕ → Type 0
IsStateMessage listed name message =
    (quote : List ℕ) × (note : List ℕ) × IsQuote name quote × IsNearestNote name (state_names listed) note
    × (message ≡ codes "no state has the name " ++ quote ++ state_hint ++ note)

-- a state has the name, and the form shows the first one
abbrev pub NamesState : List Listed → List ℕ → ViewForm → Type 0
NamesState listed name form = (s : ℕ) × IsNamedState listed name s × (form ≡ State s)

-- a state has the name, and the form is a picture of the first one
abbrev pub PicturesState : List Listed → List ℕ → ViewForm → Type 0
PicturesState listed name (Picture s places) = IsNamedState listed name s
PicturesState listed name _ = ⊥

-- no state has the name, which ends the run with a message
abbrev pub LacksState : List Listed → List ℕ → Status → List ℕ → Type 0
LacksState listed name status message = ((s : ℕ) → IsNamedState listed name s → ⊥) × (status ≡ BadWords) × IsStateMessage listed name message
