-- views of outcomes, one after another
use Rattle.std.proofs.Common.{◌≡◌, ℕ, ◌+◌, ◌≤◌, ◌<◌, List, [], ◌∷◌, ◌++◌, append-nil, append_assoc, ap, get_or, length, refl, subst, sym, take, take_all, ◌∙◌}
use Rattle.net_core.proofs.Library.{take_more}
use Rattle.plan_terms.specs.Terms.{Case}
use Rattle.plan_types.specs.declared.report.Outcome.{Outcome}
use Rattle.text_kit.specs.Terms.{AddsText}
use Rattle.view_cells.proofs.Lemmas.{appended}
use Rattle.view_text.{specs.Headings.heading_text, specs.OutcomeCells.{HasOutcomes, numbers_text}, specs.Reports.{AreOutcomeViews, IsBody, IsBrief, IsFirstBlock, IsNumberedView, IsOutcomeView, IsReportView, IsSessionView}, specs.declared.proof.CostProof.CostProof, specs.declared.proof.CostProof.TheVariants.Nothing}

pub numbered : (p : Case) (outcome : Outcome) (old mid new : List ℕ) → mid ≡ old ++ numbers_text outcome
    → AddsText (IsOutcomeView p Nothing outcome) mid new → AddsText (IsNumberedView p outcome) old new
numbered p outcome old mid new line view =
    (numbers_text outcome ++ view.0, record { view = view.0; is_view = view.1; printed = refl }, appended old (numbers_text outcome) view.0 mid new line view.2)

more_views : (p : Case) (xs : List Outcome) (outcome : Outcome) (views view : List ℕ) → AreOutcomeViews p xs views → IsNumberedView p outcome view
    → AreOutcomeViews p (xs ++ outcome ∷ []) (views ++ view)
more_views p [] outcome views view none one = (view, [], one, refl, ap (λ t. t ++ view) none ∙ sym (append-nil view))
more_views p (x ∷ xs) outcome views view are one =
    (are.0, are.1 ++ view, are.2, more_views p xs outcome are.1 view are.3 one, ap (λ t. t ++ view) are.4 ∙ append_assoc are.0 are.1 view)

pub no_views : (p : Case) (text : List ℕ) → AddsText (AreOutcomeViews p []) text text
no_views p text = ([], refl, sym (append-nil text))

pub next_views : (p : Case) (outcomes : List Outcome) (i : ℕ) (outcome : Outcome) (old mid new : List ℕ) → i < length outcomes
    → outcome ≡ get_or outcomes i outcome → AddsText (AreOutcomeViews p (take i outcomes)) old mid → AddsText (IsNumberedView p outcome) mid new
    → AddsText (AreOutcomeViews p (take (i + 1) outcomes)) old new
next_views p outcomes i outcome old mid new lt is views view =
    let one : IsNumberedView p (get_or outcomes i outcome) view.0 = subst (λ o. IsNumberedView p o view.0) is view.1 in (
      views.0 ++ view.0,
      subst (λ xs. AreOutcomeViews p xs (views.0 ++ view.0)) (sym (take_more outcomes i outcome lt))
          (more_views p (take i outcomes) (get_or outcomes i outcome) views.0 view.0 views.1 one),
      appended old views.0 view.0 mid new views.2 view.2,
    )

pub all_views : (p : Case) (outcomes : List Outcome) (i : ℕ) (old new : List ℕ) → length outcomes ≤ i
    → AddsText (AreOutcomeViews p (take i outcomes)) old new → AddsText (AreOutcomeViews p outcomes) old new
all_views p outcomes i old new le views = subst (λ xs. AddsText (AreOutcomeViews p xs) old new) (take_all i outcomes le) views

pub session : (p : Case) (outcomes : List Outcome) (old mid new : List ℕ) → AddsText (HasOutcomes p.places outcomes) old mid
    → AddsText (AreOutcomeViews p outcomes) mid new → AddsText (IsSessionView p outcomes) old new
session p outcomes old mid new table views = (
  table.0 ++ views.0,
  record { table = table.0; views = views.0; has_table = table.1; are_views = views.1; printed = refl },
  appended old table.0 views.0 mid new table.2 views.2,
)

pub report : (network : List ℕ) (p : Case) (outcomes : List Outcome) (proof : CostProof) (old mid new : List ℕ)
    → mid ≡ old ++ heading_text network p outcomes
    → AddsText (IsBody p proof outcomes) mid new → AddsText (IsReportView network p outcomes proof) old new
report network p outcomes proof old mid new line body = (
  heading_text network p outcomes ++ body.0,
  record { body = body.0; is_body = body.1; printed = refl },
  appended old (heading_text network p outcomes) body.0 mid new line body.2,
)

pub first_block : (network : List ℕ) (p : Case) (outcomes : List Outcome) (proof : CostProof) (old mid new : List ℕ)
    → mid ≡ old ++ heading_text network p outcomes
    → AddsText (IsBrief p proof outcomes) mid new → AddsText (IsFirstBlock network p outcomes proof) old new
first_block network p outcomes proof old mid new line brief = (
  heading_text network p outcomes ++ brief.0,
  record { brief = brief.0; is_brief = brief.1; printed = refl },
  appended old (heading_text network p outcomes) brief.0 mid new line brief.2,
)
