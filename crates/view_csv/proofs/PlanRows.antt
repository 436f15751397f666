-- rows of outcomes, one after another
use Rattle.std.proofs.Common.{◌≡◌, ℕ, ◌+◌, ◌≤◌, ◌<◌, List, [], ◌∷◌, ◌++◌, append-nil, append_assoc, ap, get_or, length, refl, subst, sym, take, take_all, ◌∙◌}
use Rattle.net_core.proofs.Library.{take_more}
use Rattle.plan_terms.specs.Terms.{Case, StateId}
use Rattle.plan_report.specs.Terms.{Outcome, Unsurvivable}
use Rattle.text_kit.specs.Terms.{AddsText}
use Rattle.plan_view.specs.declared.sheet.Sheet.{Sheet}
use Rattle.view_csv.{specs.CommaSeparated.csv_text, specs.Columns.sheet_columns, specs.Sheets.{AddsRows, AreOutcomeRows, IsSheet, ShowsOutcome}}

pub none_shown : (sheet : Sheet) (p : Case) (caller serial version position : ℕ) (state : StateId) (demand : List ℕ) (rows : List (List (List ℕ)))
    → AddsRows (ShowsOutcome sheet p (Unsurvivable caller serial version position state demand)) rows rows
none_shown sheet p caller serial version position state demand rows = ([], refl, sym (append-nil rows))

pub no_outcomes : (sheet : Sheet) (p : Case) (rows : List (List (List ℕ))) → AddsRows (AreOutcomeRows sheet p []) rows rows
no_outcomes sheet p rows = ([], refl, sym (append-nil rows))

more_rows : (sheet : Sheet) (p : Case) (xs : List Outcome) (outcome : Outcome) (rows one : List (List (List ℕ))) → AreOutcomeRows sheet p xs rows
    → ShowsOutcome sheet p outcome one → AreOutcomeRows sheet p (xs ++ outcome ∷ []) (rows ++ one)
more_rows sheet p [] outcome rows one none shows = (one, [], shows, refl, ap (λ t. t ++ one) none ∙ sym (append-nil one))
more_rows sheet p (x ∷ xs) outcome rows one are shows =
    (are.0, are.1 ++ one, are.2, more_rows sheet p xs outcome are.1 one are.3 shows, ap (λ t. t ++ one) are.4 ∙ append_assoc are.0 are.1 one)

pub next_rows : (sheet : Sheet) (p : Case) (outcomes : List Outcome) (i : ℕ) (outcome : Outcome) (old mid new : List (List (List ℕ))) → i < length outcomes
    → outcome ≡ get_or outcomes i outcome → AddsRows (AreOutcomeRows sheet p (take i outcomes)) old mid → AddsRows (ShowsOutcome sheet p outcome) mid new
    → AddsRows (AreOutcomeRows sheet p (take (i + 1) outcomes)) old new
next_rows sheet p outcomes i outcome old mid new lt is rows one =
    let shows : ShowsOutcome sheet p (get_or outcomes i outcome) one.0 = subst (λ o. ShowsOutcome sheet p o one.0) is one.1 in (
      rows.0 ++ one.0,
      subst (λ xs. AreOutcomeRows sheet p xs (rows.0 ++ one.0)) (sym (take_more outcomes i outcome lt))
          (more_rows sheet p (take i outcomes) (get_or outcomes i outcome) rows.0 one.0 rows.1 shows),
      one.2 ∙ ap (λ t. t ++ one.0) rows.2 ∙ append_assoc old rows.0 one.0,
    )

pub all_rows : (sheet : Sheet) (p : Case) (outcomes : List Outcome) (i : ℕ) (old new : List (List (List ℕ))) → length outcomes ≤ i
    → AddsRows (AreOutcomeRows sheet p (take i outcomes)) old new → AddsRows (AreOutcomeRows sheet p outcomes) old new
all_rows sheet p outcomes i old new le rows = subst (λ xs. AddsRows (AreOutcomeRows sheet p xs) old new) (take_all i outcomes le) rows

pub sheet_of : (sheet : Sheet) (p : Case) (outcomes : List Outcome) (rows : List (List (List ℕ))) (old new : List ℕ)
    → AddsRows (AreOutcomeRows sheet p outcomes) (sheet_columns sheet ∷ []) rows → new ≡ old ++ csv_text rows → AddsText (IsSheet sheet p outcomes) old new
sheet_of sheet p outcomes rows old new adds put =
    (csv_text rows, record { rows = adds.0; are = adds.1; printed = ap (λ rs. csv_text rs) adds.2 }, put)
