use Rattle.std.proofs.Common.{◌≡◌, ◌<◌, ◌*◌, ◌/◌, ◌^◌, length, slice_get, get_or, Some, pos, unsigned_abs, ◌*ℤ◌, ap, sym, ◌∙◌, subst, arith}
use Rattle.net_core.proofs.Library.{slice_get-get_or}
use Rattle.simplex_core.specs.Terms.{den_of}
use Rattle.key_rows.specs.Terms.{amounts, times_taken}
use Rattle.key_paths.{specs.inner.Ends.shares, proofs.Ending.{own_is, takes_less, left_next}}
use Rattle.key_paths.proofs.finish.key_left.Goals as goal

own_taken : (c : goal.After-own_over-own) → pos c.own_over-own.result ≡ times_taken c.args.keyed.now.owners (shares c.args.keyed.now.rows c.args.all) c.args.demand c.loop-i.i *ℤ amounts c.args.keyed.now.values c.loop-i.i
own_taken c =
    let b = c.args.keyed.now in
    let row = c.index-rows-i.result in
    let at : slice_get c.items-rows.result.now c.loop-i.i ≡ Some row = slice_get-get_or c.items-rows.result.now c.loop-i.i row c.loop-i-test.true ∙ ap Some (sym c.index-rows-i.is) in
    own_is b c.args.all c.args.demand c.loop-i.i row (get_or c.items-in-loop-i-2.result.now c.loop-i.i 0) (get_or c.items-in-loop-i.result.now c.loop-i.i 0) c.own_over-own.result
    (omega (arith, c.loop-i-test.true, ap length c.items-rows.ensures)) (rw c.items-rows.ensures at at)
    (ap (λ xs. get_or xs c.loop-i.i 0) c.items-in-loop-i-2.ensures) (ap (λ xs. get_or xs c.loop-i.i 0) c.items-in-loop-i.ensures) c.own_over-own.ensures

pub overflow_sub-left : goal.overflow_sub-left
overflow_sub-left c =
    takes_less c.args.keyed.now c.args.all c.args.demand c.loop-i.i c.own_over-own.result c.loop-i.left c.requires.fit c.requires.demand
    (omega (arith, c.loop-i-test.true, ap length c.items-rows.ensures)) (own_taken c) c.loop-i.invariant

pub loop-i-preserved : goal.loop-i-preserved
loop-i-preserved c =
    left_next c.args.keyed.now c.args.all c.args.demand c.loop-i.i c.own_over-own.result c.loop-i.left c.requires.fit c.requires.demand
    (omega (arith, c.loop-i-test.true, ap length c.items-rows.ensures)) (own_taken c) c.loop-i.invariant

pub own_over-own-requires : goal.own_over-own-requires
own_over-own-requires c =
    let b = c.args.keyed.now in
    let i = c.loop-i.i in
    let all = c.args.all in
    let row = c.index-rows-i.result in
    let lt : i < length b.rows = omega (arith, c.loop-i-test.true, ap length c.items-rows.ensures) in
    let is = rw c.items-rows.ensures at c.index-rows-i.is in
    let at : slice_get b.rows i ≡ Some row = slice_get-get_or b.rows i row lt ∙ ap Some (sym is) in
    subst (λ xs. get_or xs i 0 * (all / unsigned_abs row.den) < 2 ^ 124) (sym c.items-in-loop-i.ensures)
    (subst (λ o. get_or b.values i 0 * (all / unsigned_abs (den_of o)) < 2 ^ 124) at (c.requires.fit.rows i lt))
