use Rattle.std.proofs.Common.{◌≡◌, ◌≤◌, ◌^◌, length, drop, unsigned_abs, ap, sym, subst, ◌∙◌, take_at}
use Rattle.checked_fraction.specs.Terms.{num}
use Rattle.simplex_law.specs.Terms.{dot}
use Rattle.simplex_core.specs.Terms.{nums_at}
use Rattle.key_rows.specs.Names.{left_uses}
use Rattle.key_rows.proofs.keys.write_product_list.Goals as goal

pub write_products-requires-clause-count : goal.write_products-requires-clause-count
write_products-requires-clause-count c = ap length c.items_mut.ensures.value ∙ c.requires.count

pub returns-clause-count : goal.returns-clause-count
returns-clause-count c =
    let old = c.args.products.now in
    let new = c.write_products.new.products in
    let count : length new ≡ length old = c.write_products.ensures.count ∙ ap length c.items_mut.ensures.value in
    ap length (take_at new (drop (length new) old) (length old) count) ∙ count

pub returns-clause-products : goal.returns-clause-products
returns-clause-products c = λ i l.
    let rows = c.args.rows.now in
    let old = c.args.products.now in
    let new = c.write_products.new.products in
    let count : length new ≡ length old = c.write_products.ensures.count ∙ ap length c.items_mut.ensures.value in
    subst (λ xs. num xs i ≡ dot (length rows) (nums_at rows i) (left_uses c.args.name.now c.args.key.now)) (sym (take_at new (drop (length new) old) (length old) count)) (c.write_products.ensures.products i l)

pub returns-clause-low : goal.returns-clause-low
returns-clause-low c = λ i l.
    let old = c.args.products.now in
    let new = c.write_products.new.products in
    let count : length new ≡ length old = c.write_products.ensures.count ∙ ap length c.items_mut.ensures.value in
    subst (λ xs. unsigned_abs (num xs i) ≤ 2 ^ 71) (sym (take_at new (drop (length new) old) (length old) count)) (c.write_products.ensures.low i l)
