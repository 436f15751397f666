use Rattle.std.proofs.Common.{◌≡◌, ◌∙◌, ◌<◌, length, subst, sym, arith, to_z, of_z}
use Rattle.net_core.proofs.Library.{w128, ints, ForSome}
use Rattle.key_rows.specs.Terms.{IsRoom, IsFirstOfRoles, HaveColumnProducts, demand_in, key_links, IsNameWithin}
use Rattle.key_paths.{specs.inner.Entering.Enters, specs.inner.Gaining.cost_at, specs.declared.turns.Turn.TheVariants.Wide, proofs.Picking.{new_shaped, new_key, new_bounds, new_values, new_row_values, new_priced, ends_wide, ends_unbounded, ends_turned}}
use Rattle.key_paths.proofs.entering.enter.Goals as goal

pub leaving-requires-clause-shaped : goal.leaving-requires-clause-shaped
leaving-requires-clause-shaped c = new_shaped c.args.keyed.now c.take_products.new.keyed c.args.name c.take_products.ensures.same c.take_products.ensures.count c.take_products.ensures.products c.requires.gains.gaining

pub leaving-requires-clause-key : goal.leaving-requires-clause-key
leaving-requires-clause-key c = new_key c.args.keyed.now c.take_products.new.keyed c.args.name c.take_products.ensures.same c.take_products.ensures.count c.take_products.ensures.products c.requires.gains.gaining

pub leaving-requires-clause-bounds : goal.leaving-requires-clause-bounds
leaving-requires-clause-bounds c = new_bounds c.args.keyed.now c.take_products.new.keyed c.args.name c.take_products.ensures.same c.take_products.ensures.count c.take_products.ensures.products c.requires.gains.gaining

pub leaving-requires-clause-values : goal.leaving-requires-clause-values
leaving-requires-clause-values c = new_values c.args.keyed.now c.take_products.new.keyed c.args.name c.take_products.ensures.same c.take_products.ensures.count c.take_products.ensures.products c.requires.gains.gaining

pub leaving-requires-clause-row_values : goal.leaving-requires-clause-row_values
leaving-requires-clause-row_values c = new_row_values c.args.keyed.now c.take_products.new.keyed c.args.name c.take_products.ensures.same c.take_products.ensures.count c.take_products.ensures.products c.requires.gains.gaining

pub wide_kind-requires-clause-shaped : goal.wide_kind-requires-clause-shaped
wide_kind-requires-clause-shaped c = new_shaped c.args.keyed.now c.take_products.new.keyed c.args.name c.take_products.ensures.same c.take_products.ensures.count c.take_products.ensures.products c.requires.gains.gaining

pub turn_at-requires-clause-shaped : goal.turn_at-requires-clause-shaped
turn_at-requires-clause-shaped c = new_shaped c.args.keyed.now c.take_products.new.keyed c.args.name c.take_products.ensures.same c.take_products.ensures.count c.take_products.ensures.products c.requires.gains.gaining

pub turn_at-requires-clause-enters : goal.turn_at-requires-clause-enters
turn_at-requires-clause-enters c =
    let x = to_z w128 (of_z w128 c.cost_of-cost.result) in
    let is : x ≡ cost_at c.args.keyed.now c.args.name = omega (arith, ints, c.cost_of-cost.type_inv) ∙ c.cost_of-cost.ensures in
    new_priced c.args.keyed.now c.take_products.new.keyed c.args.name c.take_products.ensures.same c.take_products.ensures.count c.take_products.ensures.products c.requires.gains.gaining c.in-Ok-Some.role x is (subst (IsFirstOfRoles c.take_products.new.keyed c.args.name (λ s. Unit {0})) c.in-Ok-Some.field-0-is c.in-Ok-Some.ensures.first)

pub returns-in-Err-clause-entered : goal.returns-in-Err-clause-entered
returns-in-Err-clause-entered c = λ bound basis place role column g.
    let b = c.args.keyed.now in
    subst (λ kind. Enters (length b.rows) (length b.duals) bound basis place role b column (Wide kind) c.take_products.new.keyed) (sym c.wide_kind.ensures)
    (ends_wide c.args.keyed.now c.take_products.new.keyed c.args.name c.take_products.ensures.same c.take_products.ensures.count c.take_products.ensures.products g c.in-Err.wide c.in-Err.ensures.wide)

pub returns-in-Ok-None-clause-entered : goal.returns-in-Ok-None-clause-entered
returns-in-Ok-None-clause-entered c = λ bound basis place role column g.
    ends_unbounded c.args.keyed.now c.take_products.new.keyed c.args.name c.take_products.ensures.same c.take_products.ensures.count c.take_products.ensures.products g (subst (IsFirstOfRoles c.take_products.new.keyed c.args.name (λ s. Unit {0})) c.in-Ok-None.field-0-is c.in-Ok-None.ensures.first)

pub returns-in-Ok-Some-clause-entered : goal.returns-in-Ok-Some-clause-entered
returns-in-Ok-Some-clause-entered c = λ bound basis place role column g.
    let x = to_z w128 (of_z w128 c.cost_of-cost.result) in
    let is : x ≡ cost_at c.args.keyed.now c.args.name = omega (arith, ints, c.cost_of-cost.type_inv) ∙ c.cost_of-cost.ensures in
    ends_turned c.args.keyed.now c.take_products.new.keyed c.args.name c.take_products.ensures.same c.take_products.ensures.count c.take_products.ensures.products g c.in-Ok-Some.role x is (subst (IsFirstOfRoles c.take_products.new.keyed c.args.name (λ s. Unit {0})) c.in-Ok-Some.field-0-is c.in-Ok-Some.ensures.first)
    c.turn_at.result c.turn_at.new.keyed c.turn_at.ensures.turned

pub leaving-requires-clause-room : goal.leaving-requires-clause-room
leaving-requires-clause-room c = subst (λ b. IsRoom (length b.rows) c.args.room.now) (sym c.take_products.ensures.same) c.requires.room

pub leaving-requires-clause-demand : goal.leaving-requires-clause-demand
leaving-requires-clause-demand c = subst (λ b. ForSome (demand_in c.args.name) (λ d. d < length b.duals)) (sym c.take_products.ensures.same) c.requires.gains.gaining.sound.demand

pub leaving-requires-clause-name : goal.leaving-requires-clause-name
leaving-requires-clause-name c = subst (λ b. IsNameWithin (length b.rows) c.args.name) (sym c.take_products.ensures.same) c.requires.gains.gaining.sound.within

pub leaving-requires-clause-products : goal.leaving-requires-clause-products
leaving-requires-clause-products c =
    subst (λ b. HaveColumnProducts c.take_products.new.keyed c.args.name (key_links b.names b.places (length b.rows) (demand_in c.args.name))) (sym c.take_products.ensures.same)
    c.take_products.ensures.products

pub leaving-requires-clause-low : goal.leaving-requires-clause-low
leaving-requires-clause-low c = λ i l. omega (arith, c.take_products.ensures.low i (subst (λ b. i < length b.rows) c.take_products.ensures.same l))

pub returns-in-Ok-Some-clause-room : goal.returns-in-Ok-Some-clause-room
returns-in-Ok-Some-clause-room c = λ again. subst (λ b. IsRoom (length b.rows) c.turn_at.new.room) c.take_products.ensures.same (c.turn_at.ensures.room again)
