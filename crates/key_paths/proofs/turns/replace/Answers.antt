use Rattle.std.proofs.Common.{◌≡◌, ◌<◌, ◌≤◌, ◌^◌, ◌≤ℤ◌, length, pos, unsigned_abs, refl, sym, ap, ◌∙◌, subst, arith, inr}
use Rattle.checked_fraction.specs.Terms.{num}
use Rattle.plan_terms.specs.Terms.{Row as RowOf}
use Rattle.simplex_law.specs.Terms.{dot, put}
use Rattle.simplex_core.specs.Terms.{nums_at, IsRectangle}
use Rattle.key_rows.specs.Terms.{amounts, key_name, key_dual}
use Rattle.key_paths.{specs.inner.Outcomes.IsWideBasis, proofs.RowTurning.{turn_wide, shaped, rest_less, value_high, value_less, value_kept, demand_wide, next_held}, proofs.Holding.{has_key, shaped_here}}
use Rattle.key_paths.proofs.turns.replace.Goals as goal

pub returns-in-Err-clause-turned : goal.returns-in-Err-clause-turned
returns-in-Err-clause-turned c = λ bound basis place role column e priced.
    inr (subst (λ k. IsWideBasis (length c.args.keyed.now.rows) (length c.args.keyed.now.duals) column (put basis (place c.args.i) column) c.turn_rows.new.keyed.names k) (sym c.wide_turn.ensures)
    (turn_wide c.args.i c.args.cost.now e priced c.requires.pivot.inside c.turn_rows.new.keyed c.in-Err.wide c.in-Err.ensures.names c.in-Err.ensures.places c.in-Err.ensures.wide))

pub renew_value_list-requires-clause-rest : goal.renew_value_list-requires-clause-rest
renew_value_list-requires-clause-rest c =
    let p = c.requires.enters in
    let t = c.in_default.ensures.turned in
    rw c.items-3.ensures (λ k l. rest_less c.args.i c.args.cost.now p.entering p.priced c.requires.pivot.inside c.turn_rows.new.keyed t k)

pub renew_value_list-requires-clause-high : goal.renew_value_list-requires-clause-high
renew_value_list-requires-clause-high c =
    let p = c.requires.enters in
    let mid = c.turn_rows.new.keyed in
    let t = c.in_default.ensures.turned in
    let s = shaped c.args.i c.args.cost.now p.entering p.priced c.requires.pivot.inside mid t in
    rw (c.items-3.ensures, c.items.ensures) (λ i l. subst (λ n. pos 0 ≤ℤ dot n (nums_at mid.rows i) (num mid.rest)) (sym s.rest)
    (value_high c.args.i c.args.cost.now p.entering p.priced c.requires.pivot.inside mid t i (omega (arith, l, s.rows))))

pub renew_value_list-requires-clause-low : goal.renew_value_list-requires-clause-low
renew_value_list-requires-clause-low c =
    let p = c.requires.enters in
    let mid = c.turn_rows.new.keyed in
    let t = c.in_default.ensures.turned in
    let s = shaped c.args.i c.args.cost.now p.entering p.priced c.requires.pivot.inside mid t in
    rw (c.items-3.ensures, c.items.ensures) (λ i l. subst (λ n. unsigned_abs (dot n (nums_at mid.rows i) (num mid.rest)) < 2 ^ 124) (sym s.rest)
    (value_less c.args.i c.args.cost.now p.entering p.priced c.requires.pivot.inside mid t i (omega (arith, l, s.rows))))

pub renew_value_list-requires-clause-kept : goal.renew_value_list-requires-clause-kept
renew_value_list-requires-clause-kept c =
    let p = c.requires.enters in
    let mid = c.turn_rows.new.keyed in
    let t = c.in_default.ensures.turned in
    let s = shaped c.args.i c.args.cost.now p.entering p.priced c.requires.pivot.inside mid t in
    rw (c.items-3.ensures, c.items.ensures, c.items-2.ensures) (λ i l none. subst (λ n. amounts mid.values i ≡ dot n (nums_at mid.rows i) (num mid.rest)) (sym s.rest)
    (value_kept c.args.i c.args.cost.now p.entering p.priced c.requires.pivot.inside mid t i (omega (arith, l, s.rows)) none))

pub returns-then-narrow-clause-turned : goal.returns-then-narrow-clause-turned
returns-then-narrow-clause-turned c =
    let mid = c.turn_rows.new.keyed in
    let t = c.in_default.ensures.turned in
    let p = c.requires.enters in
    let i = c.args.i in
    let s = shaped i c.args.cost.now p.entering p.priced c.requires.pivot.inside mid t in
    let links = c.len-links.result in
    λ bound basis place role column e priced. (
      place,
      role,
      next_held i c.args.cost.now e priced c.requires.pivot.inside mid t c.renew_value_list.new.values c.renew_dual_list-narrow.new.duals
          (c.renew_value_list.ensures.count ∙ s.values)
          (c.renew_dual_list-narrow.ensures.count ∙ s.duals)
          c.if-narrow.ensures.narrow
          (λ k l. c.renew_value_list.ensures.values k (omega (arith, l, s.rows, ap length c.items.ensures))
          ∙ (ap (λ xs. dot (length xs) (nums_at c.items.result.now k) (num xs)) c.items-3.ensures
          ∙ (ap (λ xs. dot (length mid.rest) (nums_at xs k) (num mid.rest)) c.items.ensures
          ∙ ap (λ n. dot n (nums_at mid.rows k) (num mid.rest)) s.rest)))
          (λ d l. c.if-narrow.ensures.all refl d (omega (arith, l, s.duals))
          ∙ (ap (λ xs. key_dual links (num mid.prices.nums) mid.prices.den (key_name xs c.items-5.result.now links d)) c.items-4.ensures
          ∙ (ap (λ xs. key_dual links (num mid.prices.nums) mid.prices.den (key_name mid.names xs links d)) c.items-5.ensures
          ∙ ap (λ n. key_dual n (num mid.prices.nums) mid.prices.den (key_name mid.names mid.places n d)) (c.len-links.ensures ∙ s.rows)))),
    )

pub returns-else-narrow-clause-turned : goal.returns-else-narrow-clause-turned
returns-else-narrow-clause-turned c =
    let mid = c.turn_rows.new.keyed in
    let t = c.in_default.ensures.turned in
    let p = c.requires.enters in
    let i = c.args.i in
    let s = shaped i c.args.cost.now p.entering p.priced c.requires.pivot.inside mid t in
    let links = c.len-links.result in
    let found = c.if-narrow.ensures.wide refl in
    let d = found.0 in
    let wide = found.2 in
    λ bound basis place role column e priced.
    inr (subst (λ n. IsWideBasis (length c.args.keyed.now.rows) (length c.args.keyed.now.duals) column (put basis (place i) column) mid.names (RowOf n)) (sym c.len.ensures)
    (demand_wide i c.args.cost.now e priced c.requires.pivot.inside mid t d (omega (arith, found.1, s.duals))
    (subst (λ n. 2 ^ 62 ≤ unsigned_abs (key_dual n (num mid.prices.nums) mid.prices.den (key_name mid.names mid.places n d))) (c.len-links.ensures ∙ s.rows)
    (subst (λ xs. 2 ^ 62 ≤ unsigned_abs (key_dual links (num mid.prices.nums) mid.prices.den (key_name mid.names xs links d))) c.items-5.ensures
    (subst (λ xs. 2 ^ 62 ≤ unsigned_abs (key_dual links (num mid.prices.nums) mid.prices.den (key_name xs c.items-5.result.now links d))) c.items-4.ensures wide)))))

pub renew_value_list-requires-clause-count : goal.renew_value_list-requires-clause-count
renew_value_list-requires-clause-count c =
    let p = c.requires.enters in
    let s = shaped c.args.i c.args.cost.now p.entering p.priced c.requires.pivot.inside c.turn_rows.new.keyed c.in_default.ensures.turned in
    s.values ∙ sym (ap length c.items.ensures ∙ s.rows)

pub renew_value_list-requires-clause-products : goal.renew_value_list-requires-clause-products
renew_value_list-requires-clause-products c =
    let p = c.requires.enters in
    let s = shaped c.args.i c.args.cost.now p.entering p.priced c.requires.pivot.inside c.turn_rows.new.keyed c.in_default.ensures.turned in
    (ap length c.items-2.ensures ∙ s.products) ∙ sym (ap length c.items.ensures ∙ s.rows)

pub renew_value_list-requires-clause-rectangle : goal.renew_value_list-requires-clause-rectangle
renew_value_list-requires-clause-rectangle c =
    let p = c.requires.enters in
    let s = shaped c.args.i c.args.cost.now p.entering p.priced c.requires.pivot.inside c.turn_rows.new.keyed c.in_default.ensures.turned in
    rw (c.items-3.ensures, c.items.ensures) (subst (λ n. IsRectangle n c.turn_rows.new.keyed.rows) (sym s.rest) s.rectangle)

pub renew_dual_list-narrow-requires-clause-keys : goal.renew_dual_list-narrow-requires-clause-keys
renew_dual_list-narrow-requires-clause-keys c =
    let p = c.requires.enters in
    let s = shaped c.args.i c.args.cost.now p.entering p.priced c.requires.pivot.inside c.turn_rows.new.keyed c.in_default.ensures.turned in
    λ d l. rw (c.items-5.ensures, c.items-4.ensures, c.len-links.ensures) (has_key (shaped_here s) d l)
