use Rattle.std.proofs.Common.{◌≡◌, ◌*ℤ◌, ◌<◌, length, pos, w64, to_z, of_z, unsigned_abs, slice_get, Some, ap, sym, ◌∙◌, subst, arith}
use Rattle.net_core.proofs.Library.{◌∣◌, ints, slice_get-get_or}
use Rattle.simplex_core.specs.Terms.{den_of}
use Rattle.key_rows.proofs.Weighing.{own_divides, weight_more}
use Rattle.key_rows.proofs.weights.write_weights.Goals as goal

pub next_weight-requires-clause-divides : goal.next_weight-requires-clause-divides
next_weight-requires-clause-divides c =
    let rows = c.args.rows.now in
    let row = c.index-rows-i.result in
    let at : slice_get rows c.loop-i.i ≡ Some row = slice_get-get_or rows c.loop-i.i row c.loop-i-test.true ∙ ap Some (sym c.index-rows-i.is) in
    λ own. subst (λ o. unsigned_abs (den_of o) ∣ c.args.all) at (own_divides rows c.args.owners.now c.args.demand (length rows) c.args.all c.loop-i.i c.loop-i-test.true c.requires.all own)

pub loop-i-preserved : goal.loop-i-preserved
loop-i-preserved c =
    let rows = c.args.rows.now in
    let row = c.index-rows-i.result in
    let v = c.next_weight.result in
    let at : slice_get rows c.loop-i.i ≡ Some row = slice_get-get_or rows c.loop-i.i row c.loop-i-test.true ∙ ap Some (sym c.index-rows-i.is) in
    let back : to_z w64 (of_z w64 v) ≡ v = omega (arith, ints, c.next_weight.type_inv) in
    let inside : c.loop-i.i < length c.loop-i.weights = omega (arith, c.loop-i-test.true, c.loop-i.auto.weights, c.requires.count) in
    rw back (weight_more rows c.args.owners.now c.loop-i.weights c.args.demand c.args.all c.loop-i.i v inside c.next_weight.ensures.narrow
    (λ own. subst (λ o. v *ℤ den_of o ≡ pos c.args.all) (sym at) (c.next_weight.ensures.value own)) c.loop-i.invariant)
