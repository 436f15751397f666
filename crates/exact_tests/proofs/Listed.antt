-- programs of three rows over columns in a list are packing programs
use Rattle.std.proofs.Common.{◌≡◌, ◌≢◌, ℕ, zero, suc, ◌<◌, ◌≤◌, ◌+◌, List, length, Some, slice_get, refl, sym, ap, subst, ◌∙◌, arith, ⊎_elim, ℤ, pos, ◌+ℤ◌, ◌*ℤ◌, ◌<ℤ◌}
use Rattle.net_core.proofs.Library.{ints, by_lt_z, cases_eq, cases_lt, slice_get_within, AllByRecursion, some_same}
use Rattle.checked_fraction.{specs.Terms.{num, IsNarrow}, specs.declared.row.Row.Row}
use Rattle.simplex_law.{specs.Terms.{dot, unit_vector, ColumnOf, IsSlack, IsProgramColumn, IsPacking}, proofs.Lemmas.{unit-same, unit-other}}
use Rattle.simplex_core.{specs.Terms.{IsEntry, AreEntries, entry_of, column_from, column_of, Finds}, specs.declared.columns.Price.Price, specs.declared.columns.Price.TheVariants.{Gain, Optimal, NoMemory}}
use Rattle.exact_tests.specs.Listed.{three, entries_of, IsPackingNumber, IsListedColumn, Copies}

pub entry_is : (a b c : ℤ) (k : ℕ) → k < 3 → entry_of (entries_of a b c) k ≡ three a b c k
entry_is a b c zero lt = omega (arith, ints)
entry_is a b c (suc zero) lt = omega (arith, ints)
entry_is a b c (suc (suc zero)) lt = omega (arith, ints)
entry_is a b c (suc (suc (suc k))) lt = absurd (omega arith)

pub three_fit : (a b c : ℤ) (k : ℕ) → IsPackingNumber a → IsPackingNumber b → IsPackingNumber c → k < 3 → IsPackingNumber (three a b c k)
three_fit a b c zero fa fb fc lt = fa
three_fit a b c (suc zero) fa fb fc lt = fb
three_fit a b c (suc (suc zero)) fa fb fc lt = fc
three_fit a b c (suc (suc (suc k))) fa fb fc lt = absurd (omega arith)

some_three : (a b c : ℤ) → pos 0 <ℤ ((a +ℤ b) +ℤ c) → (k : ℕ) × (k < 3) × (pos 0 <ℤ three a b c k)
some_three a b c some = by_lt_z (pos 0) a
    (λ h. (0, omega arith, h))
    (λ low. by_lt_z (pos 0) b
    (λ h. (1, omega arith, h))
    (λ less. (2, omega arith, omega (arith, ints, some, low, less))))

unit_fits : (i k : ℕ) → IsPackingNumber (unit_vector i k)
unit_fits i k = ⊎_elim
    (λ e. subst (λ j. IsPackingNumber (unit_vector i j)) e (subst IsPackingNumber (sym (unit-same i)) (omega (arith, ints), omega (arith, ints))))
    (λ ne. subst IsPackingNumber (sym (unit-other i k ne)) (omega (arith, ints), omega (arith, ints)))
    (cases_eq i k)

pub are_entries : (m : ℕ) (a b c : ℤ) → m ≡ 3 → IsPackingNumber a → IsPackingNumber b → IsPackingNumber c → AllByRecursion (IsEntry m) (entries_of a b c)
are_entries m a b c e fa fb fc = (one 0 a (omega arith) fa, (one 1 b (omega arith) fb, (one 2 c (omega arith) fc, tt)))
  where
    one : (row : ℕ) (z : ℤ) → row < 3 → IsPackingNumber z → IsEntry m (record { row = row; value = z })
    one row z lt f = record {
      inside = omega (arith, e, lt);
      positive = f.0;
      narrow = f.1;
    }

-- a listed column that is copied is found
pub found_copy : {X N : Type 0} (name : ℕ → N) (gain : X → ℤ) (first second third : X → ℤ) (items : List X) (duals : Row) (i : ℕ) (x : X) (price : Price N)
    → slice_get items i ≡ Some x → IsNarrow (gain x) → IsPackingNumber (first x) → IsPackingNumber (second x) → IsPackingNumber (third x)
    → dot 3 (num duals.nums) (entry_of (entries_of (first x) (second x) (third x))) <ℤ (duals.den *ℤ gain x)
    → Copies (name i) (gain x) (entries_of (first x) (second x) (third x)) price
    → Finds 3 (IsListedColumn name gain (λ x. entries_of (first x) (second x) (third x)) items) duals price
found_copy name gain first second third items duals i x (Gain c) at narrow fa fb fc gains copy =
    let same : column_of c ≡ column_from (name i) (gain x) (entries_of (first x) (second x) (third x)) =
    ap (λ n. column_from n c.gain c.entries) copy.0 ∙ (ap (λ g. column_from (name i) g c.entries) copy.1 ∙ ap (λ es. column_from (name i) (gain x) es) copy.2) in
    record {
      listed = (i, x, at, same);
      entries = subst (AreEntries 3) (sym copy.2) (record {
        each = are_entries 3 (first x) (second x) (third x) refl fa fb fc;
        once = ((λ e. absurd (omega (arith, e)), (λ e. absurd (omega (arith, e)), tt)), ((λ e. absurd (omega (arith, e)), tt), (tt, tt)));
      });
      gain = subst IsNarrow (sym copy.1) narrow;
      gains = subst (λ d. dot 3 (num duals.nums) d.entry <ℤ (duals.den *ℤ d.gain)) (sym same) gains;
    }
found_copy name gain first second third items duals i x Optimal at narrow fa fb fc gains copy = absurd copy
found_copy name gain first second third items duals i x NoMemory at narrow fa fb fc gains copy = tt

-- one item more is not of a kind
pub none_next : {X : Type 0} (P : X → Type 0) (items : List X) (n : ℕ) (y : X) → ((k : ℕ) (x : X) → k < n → slice_get items k ≡ Some x → P x → ⊥) → slice_get items n ≡ Some y → (P y → ⊥)
    → (k : ℕ) (x : X) → k < n + 1 → slice_get items k ≡ Some x → P x → ⊥
none_next P items n y before at none k x lt here = ⊎_elim
    (λ less. before k x less here)
    (λ ge. let e : n ≡ k = omega arith in
    let same : y ≡ x = some_same y x (sym at ∙ (ap (λ i. slice_get items i) e ∙ here)) in
    λ p. none (subst P (sym same) p))
    (cases_lt k n)

-- where no item gains, no listed column does
pub none_listed : {X N : Type 0} (name : ℕ → N) (gain : X → ℤ) (first second third : X → ℤ) (items : List X) (duals : Row) (n : ℕ) → length items ≤ n
    → ((k : ℕ) (x : X) → k < n → slice_get items k ≡ Some x → dot 3 (num duals.nums) (entry_of (entries_of (first x) (second x) (third x))) <ℤ (duals.den *ℤ gain x) → ⊥)
    → (c : ColumnOf N) → IsListedColumn name gain (λ x. entries_of (first x) (second x) (third x)) items c → dot 3 (num duals.nums) c.entry <ℤ (duals.den *ℤ c.gain) → ⊥
none_listed name gain first second third items duals n le none c l gains =
    none l.0 l.1 (omega (arith, slice_get_within items l.0 l.1 l.2, le)) l.2
    (subst (λ d. dot 3 (num duals.nums) d.entry <ℤ (duals.den *ℤ d.gain)) l.3 gains)

module _ {X N : Type 0} (name slack : ℕ → N) (gain first second third : X → ℤ) (bound : ℕ → ℤ) (items : List X)
    (apart : (i j : ℕ) → name i ≢ slack j) (names : (i j : ℕ) → name i ≡ name j → i ≡ j) (slacks : (i j : ℕ) → slack i ≡ slack j → i ≡ j)
    (narrow : (x : X) → IsNarrow (gain x)) (fits : (x : X) → IsPackingNumber (first x) × IsPackingNumber (second x) × IsPackingNumber (third x))
    (some : (x : X) → pos 0 <ℤ ((first x +ℤ second x) +ℤ third x)) where
  pub packing : ((k : ℕ) → k < 3 → IsPackingNumber (bound k)) → IsPacking 3 bound (IsProgramColumn 3 slack (IsListedColumn name gain (λ x. entries_of (first x) (second x) (third x)) items))
  packing limits = record {
    bounds = limits;
    gains = λ c h. ⊎_elim
        (λ (l : IsListedColumn name gain (λ x. entries_of (first x) (second x) (third x)) items c). subst (λ (d : ColumnOf N). IsNarrow d.gain) (sym l.3) (narrow l.1))
        (λ (s : IsSlack 3 slack c). subst IsNarrow (sym s.gain) (omega (arith, ints)))
        h;
    entries = λ c h k lt. ⊎_elim
        (λ (l : IsListedColumn name gain (λ x. entries_of (first x) (second x) (third x)) items c). subst (λ (d : ColumnOf N). IsPackingNumber (d.entry k)) (sym l.3)
        (subst IsPackingNumber (sym (entry_is (first l.1) (second l.1) (third l.1) k lt)) (three_fit (first l.1) (second l.1) (third l.1) k (fits l.1).0 (fits l.1).1 (fits l.1).2 lt)))
        (λ (s : IsSlack 3 slack c). subst IsPackingNumber (sym (s.entry k lt)) (unit_fits s.row k))
        h;
    limited = λ c h more. ⊎_elim
        (λ (l : IsListedColumn name gain (λ x. entries_of (first x) (second x) (third x)) items c).
        let p = some_three (first l.1) (second l.1) (third l.1) (some l.1) in
        (p.0, p.1, subst (λ (d : ColumnOf N). pos 0 <ℤ d.entry p.0) (sym l.3) (subst (λ x. pos 0 <ℤ x) (sym (entry_is (first l.1) (second l.1) (third l.1) p.0 p.1)) p.2)))
        (λ (s : IsSlack 3 slack c). absurd (omega (arith, ints, more, s.gain)))
        h;
    named = λ c d hc hd same. ⊎_elim
        (λ (l : IsListedColumn name gain (λ x. entries_of (first x) (second x) (third x)) items c). ⊎_elim
        (λ (k : IsListedColumn name gain (λ x. entries_of (first x) (second x) (third x)) items d).
        let place : l.0 ≡ k.0 = names l.0 k.0 (sym (ap (λ (x : ColumnOf N). x.name) l.3) ∙ (same ∙ ap (λ (x : ColumnOf N). x.name) k.3)) in
        let item : l.1 ≡ k.1 = some_same l.1 k.1 (sym l.2 ∙ (ap (λ i. slice_get items i) place ∙ k.2)) in
        let one : c ≡ d = l.3 ∙ (ap (λ i. column_from (name i) (gain l.1) (entries_of (first l.1) (second l.1) (third l.1))) place
        ∙ (ap (λ x. column_from (name k.0) (gain x) (entries_of (first x) (second x) (third x))) item ∙ sym k.3)) in
        (ap (λ (x : ColumnOf N). x.gain) one, λ j lt. ap (λ (x : ColumnOf N). x.entry j) one))
        (λ (s : IsSlack 3 slack d). absurd (apart l.0 s.row (sym (ap (λ (x : ColumnOf N). x.name) l.3) ∙ (same ∙ s.named))))
        hd)
        (λ (s : IsSlack 3 slack c). ⊎_elim
        (λ (k : IsListedColumn name gain (λ x. entries_of (first x) (second x) (third x)) items d). absurd (apart k.0 s.row (sym (ap (λ (x : ColumnOf N). x.name) k.3) ∙ (sym same ∙ s.named))))
        (λ (t : IsSlack 3 slack d).
        let row : s.row ≡ t.row = slacks s.row t.row (sym s.named ∙ (same ∙ t.named)) in
        (s.gain ∙ sym t.gain, λ j lt. s.entry j lt ∙ (ap (λ i. unit_vector i j) row ∙ sym (t.entry j lt))))
        hd)
        hc;
  }
