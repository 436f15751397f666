-- rows that are taken away
use Rattle.std.proofs.Common.{◌≡◌, ℕ, suc, ◌+◌, ◌<◌, List, Bool, true, false, Result, Ok, Err, Some, get_or, slice_get, sym, ap, ◌∙◌, subst, arith, OnOk, IfErr, is_ok, ℤ, pos, ◌+ℤ◌, ◌-ℤ◌, ◌*ℤ◌}
use Rattle.net_core.proofs.Library.{ints}
use Rattle.checked_fraction.{specs.Terms.{num, IsReduced, IsTooWide}, specs.declared.wide.WideNumber.WideNumber, specs.declared.row.Row.Row}
use Rattle.simplex_law.{specs.Terms.{unit_vector, int_sum}, proofs.Lemmas.unit-same}
use Rattle.simplex_core.specs.Terms.{nums_of, nums_at}
use Rattle.key_rows.specs.KeyRows.{times_taken, less_rows}

pub one_time : (new old : ℤ) (owner d : ℕ) (weight x y : ℤ) → owner ≡ d → new ≡ old -ℤ (weight *ℤ x) → x ≡ y → new ≡ old -ℤ ((unit_vector owner d *ℤ weight) *ℤ y)
one_time new old owner d weight x y same e is =
    let one : unit_vector owner d ≡ pos 1 = subst (λ z. unit_vector owner z ≡ pos 1) same (unit-same owner) in
    e ∙ (ap (λ z. old -ℤ (weight *ℤ z)) is ∙ sym (ap (λ z. old -ℤ ((z *ℤ weight) *ℤ y)) one ∙ ap (λ z. old -ℤ (z *ℤ y)) (once weight)))
  where
    once : (x : ℤ) → pos 1 *ℤ x ≡ x
    once x = omega (arith, ints)

pub row_more : (rows : List Row) (owners : List ℕ) (weights : List ℤ) (d n k : ℕ) (row : Row) (new old : ℤ) → slice_get rows n ≡ Some row → old ≡ less_rows rows owners weights d n k
    → new ≡ old -ℤ ((unit_vector (get_or owners n 0) d *ℤ num weights n) *ℤ num row.nums k) → new ≡ less_rows rows owners weights d (n + 1) k
row_more rows owners weights d n k row new old at before after =
    let here : num row.nums k ≡ nums_at rows n k = ap (λ o. num (nums_of o) k) (sym at) in
    let e = after ∙ ap (λ x. old -ℤ ((unit_vector (get_or owners n 0) d *ℤ num weights n) *ℤ x)) here in
    subst (λ m. new ≡ less_rows rows owners weights d m k) (one_more n) (less _ e before)
  where
    one_more : (n : ℕ) → suc n ≡ n + 1
    one_more n = omega arith

    less : (x : ℤ) → new ≡ old -ℤ x → old ≡ pos 0 -ℤ int_sum n (λ i. times_taken owners weights d i *ℤ nums_at rows i k) → new ≡ pos 0 -ℤ (int_sum n (λ i. times_taken owners weights d i *ℤ nums_at rows i k) +ℤ x)
    less x a b = omega (arith, ints, a, b)

-- equal numbers in lowest terms
pub reduced_of : (f g : ℕ → ℤ) (n : ℕ) (whole den : ℤ) (nums : ℕ → ℤ) → ((k : ℕ) → k < n → f k ≡ g k) → IsReduced n f whole nums den → IsReduced n g whole nums den
reduced_of f g n whole den nums each low = record { positive = low.positive; same = λ k l. low.same k l ∙ ap (λ x. x *ℤ den) (each k l); lowest = low.lowest }

-- equal numbers are too wide
pub wide_of : (f g : ℕ → ℤ) (n : ℕ) (whole : ℤ) (wide : WideNumber) → ((k : ℕ) → k < n → f k ≡ g k) → IsTooWide n f whole wide → IsTooWide n g whole wide
wide_of f g n whole wide each (nums, den, low, first) = (nums, den, reduced_of f g n whole den nums each low, first)

-- what holds of a call that went well
pub done_of : {T E P : Type 0} (r : Result T E) (went : Bool) → went ≡ is_ok r → OnOk r P → went ≡ true → P
done_of (Ok x) went same holds good = holds
done_of (Err e) went same holds good = absurd cc

-- what holds of a call that did not
pub failed_of : {T E : Type 0} {P : E → Type 0} (r : Result T E) (went : Bool) → went ≡ is_ok r → IfErr r P → went ≡ false → (e : E) × P e
failed_of (Ok x) went same holds bad = absurd cc
failed_of (Err e) went same holds bad = (e, holds)
