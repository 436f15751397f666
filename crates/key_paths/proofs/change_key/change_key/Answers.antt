use Rattle.std.proofs.Common.{◌≡◌, ◌≤ℤ◌, ◌^◌, ◌<◌, ◌+◌, get_or, length, pos, unsigned_abs, to_z, of_z, slice_set, sym, subst, ap, ◌∙◌, arith}
use Rattle.net_core.proofs.Library.{w128, ints}
use Rattle.simplex_law.specs.Terms.{dot}
use Rattle.simplex_core.specs.Terms.{nums_at}
use Rattle.checked_fraction.specs.Terms.{num}
use Rattle.key_rows.specs.Terms.{demand_in, key_links, key_name, column_name, left_uses, IsNameWithin}
use Rattle.key_paths.{proofs.Exchanging.{shaped, rest_less, value_high, value_less, next_entering}, proofs.Holding.{rest_low, shaped_here, has_key, key_short}, proofs.Named.short_links}
use Rattle.key_paths.proofs.change_key.change_key.Goals as goal

pub swap_roles-requires-clause-rest : goal.swap_roles-requires-clause-rest
swap_roles-requires-clause-rest c = λ k. omega (arith, rest_low c.requires.enters.entering.held k)

pub row_value-value-requires-clause-shaped : goal.row_value-value-requires-clause-shaped
row_value-value-requires-clause-shaped c =
    shaped_here (shaped c.args.i c.args.demand c.requires.enters.entering c.requires.inside c.requires.own c.swap_roles.new.keyed c.in_ok-swap_roles.ensures.swapped)

pub row_value-value-requires-clause-rest : goal.row_value-value-requires-clause-rest
row_value-value-requires-clause-rest c =
    rest_less c.args.i c.args.demand c.requires.enters.entering c.requires.inside c.requires.own c.swap_roles.new.keyed c.in_ok-swap_roles.ensures.swapped

pub row_value-value-requires-clause-high : goal.row_value-value-requires-clause-high
row_value-value-requires-clause-high c =
    let s = c.swap_roles.new.keyed in
    subst (λ n. pos 0 ≤ℤ dot n (nums_at s.rows c.args.i) (num s.rest)) (sym c.in_ok-swap_roles.ensures.swapped.rows)
    (value_high c.args.i c.args.demand c.requires.enters.entering c.requires.inside c.requires.own s c.in_ok-swap_roles.ensures.swapped)

pub row_value-value-requires-clause-low : goal.row_value-value-requires-clause-low
row_value-value-requires-clause-low c =
    let s = c.swap_roles.new.keyed in
    subst (λ n. unsigned_abs (dot n (nums_at s.rows c.args.i) (num s.rest)) < 2 ^ 124) (sym c.in_ok-swap_roles.ensures.swapped.rows)
    (value_less c.args.i c.args.demand c.requires.enters.entering c.requires.inside c.requires.own s c.in_ok-swap_roles.ensures.swapped)

pub row_product-product-requires-clause-shaped : goal.row_product-product-requires-clause-shaped
row_product-product-requires-clause-shaped c =
    shaped_here (shaped c.args.i c.args.demand c.requires.enters.entering c.requires.inside c.requires.own c.swap_roles.new.keyed c.in_ok-swap_roles.ensures.swapped)

pub row_product-product-requires-clause-key : goal.row_product-product-requires-clause-key
row_product-product-requires-clause-key c =
    let e = c.requires.enters.entering in
    let w = c.in_ok-swap_roles.ensures.swapped in
    λ d is. has_key (shaped_here (shaped c.args.i c.args.demand e c.requires.inside c.requires.own c.swap_roles.new.keyed w)) d (omega (arith, e.sound.demand d is, ap length w.duals))

pub row_product-product-requires-clause-short : goal.row_product-product-requires-clause-short
row_product-product-requires-clause-short c =
    let e = c.requires.enters.entering in
    let w = c.in_ok-swap_roles.ensures.swapped in
    key_short (shaped_here (shaped c.args.i c.args.demand e c.requires.inside c.requires.own c.swap_roles.new.keyed w)) (demand_in c.args.name.now) (λ d is. omega (arith, e.sound.demand d is, ap length w.duals))

pub returns-clause-enters : goal.returns-clause-enters
returns-clause-enters c =
    let s = c.swap_roles.new.keyed in
    let w = c.in_ok-swap_roles.ensures.swapped in
    let i = c.args.i in
    let product = c.row_product-product.result in
    let back : to_z w128 (of_z w128 product) ≡ product = omega (arith, ints, c.row_product-product.type_inv) in
    λ bound basis place role column e.
    next_entering i c.args.demand e c.requires.inside c.requires.own s w c.set_value.new.values c.set_product.new.products c.row_value-value.result product
    c.set_value.ensures
    (c.set_product.ensures ∙ ap (λ x. slice_set s.products i x) back)
    (c.row_value-value.ensures ∙ ap (λ n. dot n (nums_at s.rows i) (num s.rest)) w.rows)
    (c.row_product-product.ensures.value ∙ ap (λ n. dot n (nums_at s.rows i) (left_uses c.args.name.now (key_links s.names s.places n (demand_in c.args.name.now)))) w.rows)

pub swap_roles-requires-clause-shaped : goal.swap_roles-requires-clause-shaped
swap_roles-requires-clause-shaped c = c.requires.enters.entering.held.keyed.shaped

pub row_value-value-requires-clause-inside : goal.row_value-value-requires-clause-inside
row_value-value-requires-clause-inside c = subst (λ n. c.args.i < n) (sym c.in_ok-swap_roles.ensures.swapped.rows) c.requires.inside

pub row_product-product-requires-clause-inside : goal.row_product-product-requires-clause-inside
row_product-product-requires-clause-inside c = subst (λ n. c.args.i < n) (sym c.in_ok-swap_roles.ensures.swapped.rows) c.requires.inside

pub row_product-product-requires-clause-name : goal.row_product-product-requires-clause-name
row_product-product-requires-clause-name c = subst (λ n. IsNameWithin n c.args.name.now) (sym c.in_ok-swap_roles.ensures.swapped.rows) c.requires.enters.entering.sound.within

pub set_value-requires : goal.set_value-requires
set_value-requires c = omega (arith, c.requires.inside, c.requires.enters.entering.held.keyed.shaped.values, ap length c.in_ok-swap_roles.ensures.swapped.values)

pub set_product-requires : goal.set_product-requires
set_product-requires c = omega (arith, c.requires.inside, c.requires.enters.entering.held.keyed.shaped.products, ap length c.in_ok-swap_roles.ensures.swapped.products)

pub returns-clause-prices : goal.returns-clause-prices
returns-clause-prices c = c.in_ok-swap_roles.ensures.swapped.prices

pub swap_roles-requires-clause-demand : goal.swap_roles-requires-clause-demand
swap_roles-requires-clause-demand c = omega (arith, c.requires.enters.entering.inside)

pub swap_roles-requires-clause-old_key : goal.swap_roles-requires-clause-old_key
swap_roles-requires-clause-old_key c =
    let b = c.args.keyed.now in
    let e = c.requires.enters.entering in
    let s = e.held.keyed.shaped in
    let n = length b.rows in
    short_links n (key_name b.names b.places n c.args.demand) (s.within (get_or b.places (n + c.args.demand) 0) (s.inside (n + c.args.demand) e.inside))

pub swap_roles-requires-clause-new_key : goal.swap_roles-requires-clause-new_key
swap_roles-requires-clause-new_key c =
    let b = c.args.keyed.now in
    let s = c.requires.enters.entering.held.keyed.shaped in
    short_links (length b.rows) (column_name b.names (get_or b.places c.args.i 0)) (s.within (get_or b.places c.args.i 0) (s.inside c.args.i (omega (arith, c.requires.inside))))
