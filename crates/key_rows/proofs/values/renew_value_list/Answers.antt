use Rattle.std.proofs.Common.{◌≡◌, length, drop, ap, sym, subst, ◌∙◌, take_at}
use Rattle.checked_fraction.specs.Terms.{num}
use Rattle.simplex_law.specs.Terms.{dot}
use Rattle.simplex_core.specs.Terms.{nums_at}
use Rattle.key_rows.specs.KeyRows.{amounts}
use Rattle.key_rows.proofs.values.renew_value_list.Goals as goal

pub renew_values-requires-clause-count : goal.renew_values-requires-clause-count
renew_values-requires-clause-count c = ap length c.items_mut.ensures.value ∙ c.requires.count

pub renew_values-requires-clause-kept : goal.renew_values-requires-clause-kept
renew_values-requires-clause-kept c = λ i l none.
    let rest = c.args.rest.now in
    subst (λ xs. amounts xs i ≡ dot (length rest) (nums_at c.args.rows.now i) (num rest)) (sym c.items_mut.ensures.value) (c.requires.kept i l none)

pub returns-clause-count : goal.returns-clause-count
returns-clause-count c =
    let old = c.args.values.now in
    let new = c.renew_values.new.values in
    let count : length new ≡ length old = c.renew_values.ensures.count ∙ ap length c.items_mut.ensures.value in
    ap length (take_at new (drop (length new) old) (length old) count) ∙ count

pub returns-clause-values : goal.returns-clause-values
returns-clause-values c = λ i l.
    let rest = c.args.rest.now in
    let old = c.args.values.now in
    let new = c.renew_values.new.values in
    let count : length new ≡ length old = c.renew_values.ensures.count ∙ ap length c.items_mut.ensures.value in
    subst (λ xs. amounts xs i ≡ dot (length rest) (nums_at c.args.rows.now i) (num rest)) (sym (take_at new (drop (length new) old) (length old) count)) (c.renew_values.ensures.values i l)
