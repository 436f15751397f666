use Rattle.std.proofs.Common.{◌≡◌, ◌≤◌, ◌^◌, length, unsigned_abs, to_z, of_z, ap, sym, ◌∙◌, subst, arith}
use Rattle.net_core.proofs.Library.{w128, ints}
use Rattle.checked_fraction.specs.Terms.{num, IsNarrow}
use Rattle.simplex_law.specs.Terms.{dot}
use Rattle.simplex_core.{specs.Terms.nums_at, proofs.RowsRead.{numbers_at, width_at}}
use Rattle.key_rows.specs.Terms.{key_links, left_uses, IsNameWithin, IsShortPath}
use Rattle.key_paths.proofs.change_key.row_product.Goals as goal

width : (c : goal.After-nums) → length c.nums.result.now ≡ length c.args.keyed.now.rows
width c =
    let b = c.args.keyed.now in
    width_at b.rows c.args.i c.nums.result.now c.requires.inside c.requires.shaped.rectangle
    (numbers_at b.rows c.args.i c.index-items-i.result c.nums.result.now c.requires.inside (rw c.items-3.ensures at c.index-items-i.is) c.nums.ensures)

pub key_path-key-requires : goal.key_path-key-requires
key_path-key-requires c = λ d is. rw (c.items-2.ensures, c.items.ensures, c.len-links.ensures) (c.requires.key d (sym c.demand_of.ensures ∙ is))

pub column_product-requires-clause-name : goal.column_product-requires-clause-name
column_product-requires-clause-name c = subst (λ n. IsNameWithin n c.args.name.now) (sym (width c)) c.requires.name

pub column_product-requires-clause-key : goal.column_product-requires-clause-key
column_product-requires-clause-key c =
    let b = c.args.keyed.now in
    let demand = c.demand_of.result in
    let key = c.key_path-key.ensures
    ∙ (ap (λ xs. key_links xs c.items-2.result.now c.len-links.result demand) c.items.ensures
    ∙ (ap (λ xs. key_links b.names xs c.len-links.result demand) c.items-2.ensures
    ∙ (ap (λ n. key_links b.names b.places n demand) c.len-links.ensures ∙ ap (λ o. key_links b.names b.places (length b.rows) o) c.demand_of.ensures))) in
    subst (λ n. IsShortPath n c.key_path-key.result.now) (sym (width c)) (subst (IsShortPath (length b.rows)) (sym key) c.requires.short)

pub column_product-requires-clause-narrow : goal.column_product-requires-clause-narrow
column_product-requires-clause-narrow c = λ k. subst (λ xs. IsNarrow (num xs k)) (sym c.nums.ensures) (c.index-items-i.result.narrow k)

pub returns-clause-value : goal.returns-clause-value
returns-clause-value c =
    let b = c.args.keyed.now in
    let i = c.args.i in
    let name = c.args.name.now in
    let demand = c.demand_of.result in
    let nums = c.nums.result.now in
    let product = c.column_product.result in
    let back : to_z w128 (of_z w128 product) ≡ product = omega (arith, ints, c.column_product.ensures.bound) in
    let key = c.key_path-key.ensures
    ∙ (ap (λ xs. key_links xs c.items-2.result.now c.len-links.result demand) c.items.ensures
    ∙ (ap (λ xs. key_links b.names xs c.len-links.result demand) c.items-2.ensures
    ∙ (ap (λ n. key_links b.names b.places n demand) c.len-links.ensures ∙ ap (λ o. key_links b.names b.places (length b.rows) o) c.demand_of.ensures))) in
    let is = numbers_at b.rows i c.index-items-i.result nums c.requires.inside (rw c.items-3.ensures at c.index-items-i.is) c.nums.ensures in
    let size : length nums ≡ length b.rows = width_at b.rows i nums c.requires.inside c.requires.shaped.rectangle is in
    back
    ∙ (c.column_product.ensures.value
    ∙ (ap (λ n. dot n (num nums) (left_uses name c.key_path-key.result.now)) size
    ∙ (ap (λ xs. dot (length b.rows) (num xs) (left_uses name c.key_path-key.result.now)) is ∙ ap (λ p. dot (length b.rows) (nums_at b.rows i) (left_uses name p)) key)))

pub returns-clause-bound : goal.returns-clause-bound
returns-clause-bound c =
    let product = c.column_product.result in
    let back : to_z w128 (of_z w128 product) ≡ product = omega (arith, ints, c.column_product.ensures.bound) in
    subst (λ z. unsigned_abs z ≤ 2 ^ 71) (sym back) c.column_product.ensures.bound
