-- the entries of columns
use Rattle.std.proofs.Common.{◌≡◌, ◌≢◌, ℕ, suc, ◌+◌, ◌<◌, ◌≤◌, ◌++◌, List, [], ◌∷◌, AllPairs, cond, length, refl, ⊎_elim, sym, ap, ◌∙◌, subst, arith, ℤ, pos, ◌+ℤ◌, ◌<ℤ◌, eq-eqb, ne_eqb}
use Rattle.net_core.proofs.Library.{All-get_or, All-head, All-push, All-weaker, AllByRecursion, all_pairs_push, cases_eq, ints, recursion_from_All}
use Rattle.checked_fraction.specs.Terms.{IsNarrow}
use Rattle.simplex_core.{specs.Terms.{AreEntries, HaveApartRows, IsEntry, entry_of}, specs.declared.columns.Entry.Entry}
use Rattle.box_program.specs.inner.BoxPrograms.{AreBoxEntries, IsBoxBound, IsBoxEntry}

zero_plus : (x : ℤ) → pos 0 +ℤ x ≡ x
zero_plus x = omega (arith, ints)

plus_zero : (x : ℤ) → x +ℤ pos 0 ≡ x
plus_zero x = omega (arith, ints)

-- ---- entries put last

-- entries of the first rows are entries of more
pub entries_weaker : (n k : ℕ) (es : List Entry) → n ≤ k → AreBoxEntries n es → AreBoxEntries k es
entries_weaker n k es le are = record {
  each = All-weaker (IsBoxEntry n) (IsBoxEntry k) (λ e is. record { row = omega (arith, is.row, le); some = is.some; narrow = is.narrow }) es are.each;
  once = are.once;
}

pub entries_none : (n : ℕ) → AreBoxEntries n []
entries_none n = record { each = λ k d lt. absurd (omega arith); once = λ i j d lt within. absurd (omega arith) }

-- the entry of a row after them
pub entry_more : (n : ℕ) (es : List Entry) (e : Entry) → n ≤ e.row → pos 0 <ℤ e.value → IsNarrow e.value → AreBoxEntries n es → AreBoxEntries (e.row + 1) (es ++ e ∷ [])
entry_more n es e after some narrow are = record {
  each = All-push (IsBoxEntry (e.row + 1)) es e (entries_weaker n (e.row + 1) es (omega (arith, after)) are).each (record { row = omega arith; some = some; narrow = narrow });
  once = all_pairs_push (λ a b. a.row ≢ b.row) es e are.once (λ k d lt same. let before = (All-get_or (IsBoxEntry n) es k d lt are.each).row in absurd (omega (arith, before, same, after)));
}

-- ---- entries as the simplex method has them

apart_rows : (es : List Entry) → AllPairs (λ a b. a.row ≢ b.row) es → HaveApartRows es
apart_rows [] once = tt
apart_rows (e ∷ es) once = (
  recursion_from_All (λ (f : Entry). e.row ≢ f.row) es (λ k d lt. once 0 (suc k) d (omega arith) (omega arith)),
  apart_rows es (λ i j d lt within. once (suc i) (suc j) d (omega arith) (omega arith)),
)

pub are_entries : (n : ℕ) (es : List Entry) → AreBoxEntries n es → AreEntries n es
are_entries n es are = record {
  each = recursion_from_All (IsEntry n) es (All-weaker (IsBoxEntry n) (IsEntry n) (λ e is. record { inside = is.row; positive = omega (arith, ints, is.some); narrow = is.narrow }) es are.each);
  once = apart_rows es are.once;
}

none_there : (es : List Entry) (k : ℕ) → AllByRecursion (λ f. k ≢ f.row) es → entry_of es k ≡ pos 0
none_there [] k all = refl
none_there (f ∷ es) k all = ap (λ b. cond b f.value (pos 0) +ℤ entry_of es k) (ne_eqb f.row k (λ e. all.0 (sym e))) ∙ (zero_plus (entry_of es k) ∙ none_there es k all.1)

fits_none : IsBoxBound (pos 0)
fits_none = (omega (arith, ints), omega (arith, ints))

-- what entries hold in a row isn't negative, and fits
pub entry_fits : (n : ℕ) (es : List Entry) (k : ℕ) → AllByRecursion (IsEntry n) es → HaveApartRows es → IsBoxBound (entry_of es k)
entry_fits n [] k each once = fits_none
entry_fits n (e ∷ es) k each once = ⊎_elim
    (λ eq. subst IsBoxBound (sym (here eq)) (each.0.positive, each.0.narrow))
    (λ ne. subst IsBoxBound (sym (other ne)) (entry_fits n es k each.1 once.1))
    (cases_eq e.row k)
  where
    here : e.row ≡ k → entry_of (e ∷ es) k ≡ e.value
    here eq =
        ap (λ b. cond b e.value (pos 0) +ℤ entry_of es k) (eq-eqb e.row k eq)
        ∙ (ap (λ x. e.value +ℤ x) (none_there es k (subst (λ i. AllByRecursion (λ (f : Entry). i ≢ f.row) es) eq once.0)) ∙ plus_zero e.value)

    other : e.row ≢ k → entry_of (e ∷ es) k ≡ entry_of es k
    other ne = ap (λ b. cond b e.value (pos 0) +ℤ entry_of es k) (ne_eqb e.row k ne) ∙ zero_plus (entry_of es k)

-- entries take something of some row
pub takes_some : (n : ℕ) (es : List Entry) → 0 < length es → AreBoxEntries n es → (k : ℕ) × (k < n) × (pos 0 <ℤ entry_of es k)
takes_some n [] some are = absurd (omega arith)
takes_some n (e ∷ es) some are =
    let first = All-head (IsBoxEntry n) e es are.each in
    let all = are_entries n (e ∷ es) are in
    let rest = (entry_fits n es e.row all.each.1 all.once.1).0 in
    let here : entry_of (e ∷ es) e.row ≡ e.value +ℤ entry_of es e.row = ap (λ b. cond b e.value (pos 0) +ℤ entry_of es e.row) (eq-eqb e.row e.row refl) in
    (e.row, first.row, omega (arith, ints, first.some, rest, here))
