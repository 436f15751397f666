use Rattle.std.proofs.Common.{◌≡◌, ℕ, ◌<◌, ◌≤◌, ◌+◌, ◌^◌, w64, to_z, of_z, unsigned_abs, slice_set, ◌<ℤ◌, length, pos, subst, sym, ap, ◌∙◌, arith}
use Rattle.checked_fraction.specs.Terms.{num}
use Rattle.net_core.proofs.Library.{ints}
use Rattle.simplex_law.specs.Terms.{put}
use Rattle.key_rows.specs.Terms.{amounts, links_in, path_uses, key_name, key_dual}
use Rattle.key_paths.{specs.inner.Held.IsWideNext, proofs.Holding.{rest_low, key_once, amount_low}, proofs.KeyTurning.{low, name_once, value_high, taken_low, key_wide, next_held}, proofs.Moving.{moved_by, less_by}}
use Rattle.key_paths.proofs.turn_key.turn_key.Goals as goal

pub returns-in_default-clause-wide : goal.returns-in_default-clause-wide
returns-in_default-clause-wide c =
    let b = c.args.keyed.now in
    let places = rw c.items.ensures at c.set_name.ensures in
    let names = rw c.len-links.ensures at places in
    λ bound basis place role column e.
    let wide : 2 ^ 62 ≤ unsigned_abs (key_dual (length b.rows) (num b.prices.nums) b.prices.den c.args.name) =
    subst (λ n. 2 ^ 62 ≤ unsigned_abs (key_dual n (num b.prices.nums) b.prices.den c.args.name)) e.held.keyed.shaped.prices c.in_default.ensures in
    let next = key_wide c.args.demand e c.requires.own c.requires.alone c.set_name.new.names names wide in
    subst (λ i. IsWideNext (length b.rows) (length b.duals) (put basis (place (length b.rows + c.args.demand)) column) c.set_name.new.names i) (sym next.named.count ∙ sym c.len.ensures) next

pub move_rest-requires-clause-from : goal.move_rest-requires-clause-from
move_rest-requires-clause-from c =
    let e = c.requires.enters.entering in
    rw (c.path_of.ensures, c.key_of-old.ensures, c.items-2.ensures, c.items-3.ensures, c.len-links.ensures) (rw e.held.keyed.shaped.rest (key_once e.held c.args.demand (low c.args.demand e c.requires.own c.requires.alone)))

pub move_rest-requires-clause-to : goal.move_rest-requires-clause-to
move_rest-requires-clause-to c =
    let e = c.requires.enters.entering in
    rw (c.path_of-2.ensures) (rw e.held.keyed.shaped.rest (name_once c.args.demand e c.requires.own c.requires.alone))

pub move_rest-requires-clause-rest : goal.move_rest-requires-clause-rest
move_rest-requires-clause-rest c = rest_low c.requires.enters.entering.held

pub lower_value_list-requires-clause-values : goal.lower_value_list-requires-clause-values
lower_value_list-requires-clause-values c =
    let e = c.requires.enters.entering in
    λ i l. size (amount_low e.held i (omega (arith, l, e.held.keyed.shaped.values)))
  where
    size : {n : ℕ} → pos n <ℤ pos (2 ^ 124) → unsigned_abs (pos n) < 2 ^ 124
    size {n} h = omega (arith, ints, h)

pub lower_value_list-requires-clause-low : goal.lower_value_list-requires-clause-low
lower_value_list-requires-clause-low c =
    let e = c.requires.enters.entering in
    rw (c.items-4.ensures, c.len-links.ensures, c.items-5.ensures) (λ i l. taken_low c.args.demand e c.requires.own c.requires.alone i (omega (arith, l, e.held.keyed.shaped.values)))

pub lower_value_list-requires-clause-left : goal.lower_value_list-requires-clause-left
lower_value_list-requires-clause-left c =
    let e = c.requires.enters.entering in
    rw (c.items-4.ensures, c.len-links.ensures, c.items-5.ensures) (λ i l. value_high c.args.demand e c.requires.own c.requires.alone i (omega (arith, l, e.held.keyed.shaped.values)))

pub returns-clause-held : goal.returns-clause-held
returns-clause-held c =
    let b = c.args.keyed.now in
    let d = c.args.demand in
    let links = length b.rows in
    let dual = c.in-Some.dual in
    let back : to_z w64 (of_z w64 dual) ≡ dual = omega (arith, ints, c.in-Some.ensures.1) in
    let places = rw c.items.ensures at c.set_name-2.ensures in
    let names = rw c.len-links.ensures at places in
    let by = ap (λ xs. num xs (c.len-links.result + d)) c.items-4.ensures ∙ ap (λ n. num b.bounds (n + d)) c.len-links.ensures in
    let old = c.path_of.ensures ∙ ap links_in (c.key_of-old.ensures ∙ (ap (λ xs. key_name xs c.items-3.result.now c.len-links.result d) c.items-2.ensures
    ∙ (ap (λ xs. key_name b.names xs c.len-links.result d) c.items-3.ensures ∙ ap (λ n. key_name b.names b.places n d) c.len-links.ensures))) in
    λ bound basis place role column e.
    next_held d e c.requires.own c.requires.alone c.set_name-2.new.names names c.set_number.new.numbers c.move_rest.new.rest c.lower_value_list.new.values dual
    (c.set_number.ensures ∙ ap (λ x. slice_set b.duals d x) back)
    (c.in-Some.ensures.0 ∙ ap (λ n. key_dual n (num b.prices.nums) b.prices.den c.args.name) e.held.keyed.shaped.prices)
    c.in-Some.ensures.1
    (c.move_rest.ensures.count ∙ e.held.keyed.shaped.rest)
    (λ k. moved_by _ _ _ _ _ (c.move_rest.ensures.each k) by (ap (λ p. path_uses p k) c.path_of-2.ensures) (ap (λ p. path_uses p k) old))
    (c.lower_value_list.ensures.count ∙ e.held.keyed.shaped.values)
    (λ i l. less_by (amounts c.lower_value_list.new.values i) (amounts b.values i) (num c.items-5.result.now i) (num c.items-4.result.now (c.len-links.result + d)) (c.lower_value_list.ensures.lowered i (omega (arith, l, e.held.keyed.shaped.values))) (ap (λ xs. num xs i) c.items-5.ensures) by)
