use Rattle.std.proofs.Common.{◌≡◌, ◌<◌, ◌^◌, ◌≤ℤ◌, ℕ, length, drop, pos, unsigned_abs, ap, sym, subst, ◌∙◌, ◌-ℤ◌, ◌*ℤ◌, take_at}
use Rattle.checked_fraction.specs.Terms.{num}
use Rattle.key_rows.specs.KeyRows.{amounts}
use Rattle.key_rows.proofs.values.lower_value_list.Goals as goal

pub lower_values-requires-clause-products : goal.lower_values-requires-clause-products
lower_values-requires-clause-products c = c.requires.products ∙ sym (ap length c.items_mut.ensures.value)

pub lower_values-requires-clause-values : goal.lower_values-requires-clause-values
lower_values-requires-clause-values c = subst (λ xs. (i : ℕ) → i < length xs → unsigned_abs (amounts xs i) < 2 ^ 124) (sym c.items_mut.ensures.value) c.requires.values

pub lower_values-requires-clause-left : goal.lower_values-requires-clause-left
lower_values-requires-clause-left c =
    subst (λ xs. (i : ℕ) → i < length xs → pos 0 ≤ℤ (amounts xs i -ℤ (num c.args.products.now i *ℤ c.args.bound.now))) (sym c.items_mut.ensures.value) c.requires.left

pub returns-clause-count : goal.returns-clause-count
returns-clause-count c =
    let old = c.args.values.now in
    let new = c.lower_values.new.values in
    let count : length new ≡ length old = c.lower_values.ensures.count ∙ ap length c.items_mut.ensures.value in
    ap length (take_at new (drop (length new) old) (length old) count) ∙ count

pub returns-clause-lowered : goal.returns-clause-lowered
returns-clause-lowered c = λ i l.
    let old = c.args.values.now in
    let new = c.lower_values.new.values in
    let count : length new ≡ length old = c.lower_values.ensures.count ∙ ap length c.items_mut.ensures.value in
    let times = num c.args.products.now i *ℤ c.args.bound.now in
    subst (λ xs. amounts xs i ≡ amounts old i -ℤ times) (sym (take_at new (drop (length new) old) (length old) count))
    (subst (λ xs. amounts new i ≡ amounts xs i -ℤ times) c.items_mut.ensures.value (c.lower_values.ensures.lowered i (subst (λ xs. i < length xs) (sym c.items_mut.ensures.value) l)))
