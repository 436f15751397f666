-- what the rows of a demand leave
use Rattle.std.proofs.Common.{◌≡◌, ℕ, ℤ, suc, List, pos, ◌+◌, ◌-◌, ◌*◌, ◌^◌, ◌≤◌, ◌+ℤ◌, ◌-ℤ◌, ◌*ℤ◌, unsigned_abs, sym, ap, ◌∙◌, subst, arith, ◌≤ℤ◌}
use Rattle.net_core.proofs.Library.{*ℤ-zero, ints}
use Rattle.simplex_law.{specs.Terms.{unit_vector, int_sum}, proofs.Lemmas.{minus_left, unit-same}}
use Rattle.key_rows.specs.KeyRows.{times_taken, left_over_rows}

one_more : (n : ℕ) → suc n ≡ n + 1
one_more n = omega arith

-- one row more
pub left_more : (owners : List ℕ) (weights : List ℤ) (d : ℕ) (all own : ℤ) (f : ℕ → ℤ) (n : ℕ)
    → left_over_rows owners weights d all own f (n + 1) ≡ left_over_rows owners weights d all own f n -ℤ (times_taken owners weights d n *ℤ f n)
left_more owners weights d all own f n =
    subst (λ m. left_over_rows owners weights d all own f m ≡ left_over_rows owners weights d all own f n -ℤ (times_taken owners weights d n *ℤ f n)) (one_more n)
    (apart (all *ℤ own) (int_sum n (λ i. times_taken owners weights d i *ℤ f i)) (times_taken owners weights d n *ℤ f n))
  where
    apart : (a s t : ℤ) → a -ℤ (s +ℤ t) ≡ (a -ℤ s) -ℤ t
    apart a s t = omega (arith, ints)

pub left_none : (owners : List ℕ) (weights : List ℤ) (d : ℕ) (all own : ℤ) (f : ℕ → ℤ) → left_over_rows owners weights d all own f 0 ≡ all *ℤ own
left_none owners weights d all own f = less_none (all *ℤ own)
  where
    less_none : (a : ℤ) → a -ℤ pos 0 ≡ a
    less_none a = omega (arith, ints)

-- a row of the demand, whose number is added with the other sign
pub taken_once : (new old : ℤ) (owner d : ℕ) (w x y : ℤ) → owner ≡ d → new ≡ old +ℤ (w *ℤ x) → x ≡ pos 0 -ℤ y → new ≡ old -ℤ ((unit_vector owner d *ℤ w) *ℤ y)
taken_once new old owner d w x y same e is =
    let one : unit_vector owner d ≡ pos 1 = subst (λ z. unit_vector owner z ≡ pos 1) same (unit-same owner) in
    let less : w *ℤ (pos 0 -ℤ y) ≡ pos 0 -ℤ (w *ℤ y) = minus_left (pos 0) y w ∙ ap (λ z. z -ℤ (w *ℤ y)) (*ℤ-zero w) in
    e ∙ (ap (λ z. old +ℤ (w *ℤ z)) is ∙ (ap (λ z. old +ℤ z) less ∙ (added old (w *ℤ y) ∙ sym (ap (λ z. old -ℤ ((z *ℤ w) *ℤ y)) one ∙ ap (λ z. old -ℤ (z *ℤ y)) (once w)))))
  where
    once : (x : ℤ) → pos 1 *ℤ x ≡ x
    once x = omega (arith, ints)

    added : (a b : ℤ) → a +ℤ (pos 0 -ℤ b) ≡ a -ℤ b
    added a b = omega (arith, ints)

-- a row's value times its weight, where the row is one of the demand
pub own_times : (owner d : ℕ) (w : ℤ) (v : ℕ) → owner ≡ d → pos 0 ≤ℤ w → (unit_vector owner d *ℤ w) *ℤ pos v ≡ pos (unsigned_abs w * v)
own_times owner d w v same p =
    let one : unit_vector owner d ≡ pos 1 = subst (λ z. unit_vector owner z ≡ pos 1) same (unit-same owner) in
    let is : w ≡ pos (unsigned_abs w) = omega (arith, ints, p) in
    ap (λ z. (z *ℤ w) *ℤ pos v) one ∙ (ap (λ z. z *ℤ pos v) (once w) ∙ (ap (λ z. z *ℤ pos v) is ∙ product (unsigned_abs w) v))
  where
    once : (x : ℤ) → pos 1 *ℤ x ≡ x
    once x = omega (arith, ints)

    product : (a b : ℕ) → pos a *ℤ pos b ≡ pos (a * b)
    product a b = omega (arith, ints)

-- it isn't more than what is left
pub own_fits : (owner d : ℕ) (w : ℤ) (v left : ℕ) (before after : ℤ) → owner ≡ d → pos 0 ≤ℤ w → pos left ≡ before → after ≡ before -ℤ ((unit_vector owner d *ℤ w) *ℤ pos v)
    → pos 0 ≤ℤ after → left ≤ 2 ^ 124 → unsigned_abs w * v ≤ 2 ^ 124
own_fits owner d w v left before after same p is e some low = let t = own_times owner d w v same p in omega (arith, ints, is, e, some, low, t)

-- what is left when a value that is known to fit is taken away
pub left_after : (left taken : ℕ) (before after t : ℤ) → pos left ≡ before → after ≡ before -ℤ t → pos taken ≡ t → pos 0 ≤ℤ after → taken ≤ left
left_after left taken before after t is e same some = omega (arith, ints, is, e, same, some)

pub left_next : (left taken : ℕ) (before after t : ℤ) → pos left ≡ before → after ≡ before -ℤ t → pos taken ≡ t → taken ≤ left → pos (left - taken) ≡ after
left_next left taken before after t is e same le = omega (arith, ints, is, e, same, le)
