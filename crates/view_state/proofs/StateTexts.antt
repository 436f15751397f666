-- texts of outcomes, one after another
use Rattle.std.proofs.Common.{◌≡◌, ℕ, ◌+◌, ◌≤◌, ◌<◌, List, [], ◌∷◌, ◌++◌, append-nil, append_assoc, ap, get_or, length, refl, subst, sym, take, take_all, ◌∙◌}
use Rattle.net_core.proofs.Library.{take_more}
use Rattle.plan_terms.specs.Terms.{Case}
use Rattle.plan_types.specs.declared.report.Outcome.{Outcome}
use Rattle.text_kit.specs.Terms.{AddsText}
use Rattle.view_cells.proofs.Lemmas.{appended}
use Rattle.view_state.{specs.StateHeadings.state_heading, specs.StateViews.{AreStateTexts, IsStateView, ShowsState}}

more_texts : (p : Case) (s : ℕ) (xs : List Outcome) (outcome : Outcome) (texts one : List ℕ) → AreStateTexts p s xs texts → ShowsState p s outcome one
    → AreStateTexts p s (xs ++ outcome ∷ []) (texts ++ one)
more_texts p s [] outcome texts one none shows = (one, [], shows, refl, ap (λ t. t ++ one) none ∙ sym (append-nil one))
more_texts p s (x ∷ xs) outcome texts one are shows =
    (are.0, are.1 ++ one, are.2, more_texts p s xs outcome are.1 one are.3 shows, ap (λ t. t ++ one) are.4 ∙ append_assoc are.0 are.1 one)

pub no_texts : (p : Case) (s : ℕ) (text : List ℕ) → AddsText (AreStateTexts p s []) text text
no_texts p s text = ([], refl, sym (append-nil text))

pub next_texts : (p : Case) (s : ℕ) (outcomes : List Outcome) (i : ℕ) (outcome : Outcome) (old mid new : List ℕ) → i < length outcomes
    → outcome ≡ get_or outcomes i outcome → AddsText (AreStateTexts p s (take i outcomes)) old mid → AddsText (ShowsState p s outcome) mid new
    → AddsText (AreStateTexts p s (take (i + 1) outcomes)) old new
next_texts p s outcomes i outcome old mid new lt is texts one =
    let shows : ShowsState p s (get_or outcomes i outcome) one.0 = subst (λ o. ShowsState p s o one.0) is one.1 in (
      texts.0 ++ one.0,
      subst (λ xs. AreStateTexts p s xs (texts.0 ++ one.0)) (sym (take_more outcomes i outcome lt))
          (more_texts p s (take i outcomes) (get_or outcomes i outcome) texts.0 one.0 texts.1 shows),
      appended old texts.0 one.0 mid new texts.2 one.2,
    )

pub all_texts : (p : Case) (s : ℕ) (outcomes : List Outcome) (i : ℕ) (old new : List ℕ) → length outcomes ≤ i
    → AddsText (AreStateTexts p s (take i outcomes)) old new → AddsText (AreStateTexts p s outcomes) old new
all_texts p s outcomes i old new le texts = subst (λ xs. AddsText (AreStateTexts p s xs) old new) (take_all i outcomes le) texts

pub state_view : (network : List ℕ) (p : Case) (s : ℕ) (outcomes : List Outcome) (old mid new : List ℕ) → mid ≡ old ++ state_heading network p s
    → AddsText (AreStateTexts p s outcomes) mid new → AddsText (IsStateView network p s outcomes) old new
state_view network p s outcomes old mid new line body = (
  state_heading network p s ++ body.0,
  record { body = body.0; are = body.1; printed = refl },
  appended old (state_heading network p s) body.0 mid new line body.2,
)
