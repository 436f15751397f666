use Rattle.std.proofs.Common.{◌≡◌, ◌<◌, ◌^◌, ◌+ℤ◌, ◌*ℤ◌, length, get_or, unsigned_abs, to_z, of_z, arith}
use Rattle.net_core.{proofs.Library.{w128, ints}, specs.declared.ids.LinkId.LinkId}
use Rattle.checked_fraction.specs.Terms.{num}
use Rattle.key_rows.{proofs.Paths.link_inside, proofs.Shifting.{shift_more, bound_more, uses_end, shifted}}
use Rattle.key_rows.proofs.rest.shift.Goals as goal

pub loop-link-preserved : goal.loop-link-preserved
loop-link-preserved c =
    let rest = c.loop-link.rest in
    let path = c.args.path.now in
    let d : LinkId = record { 0 = 0 } in
    let k = c.loop-link.link-index in
    let v = c.plus.result in
    let inside : (get_or path k d).0 < length rest = omega (arith, link_inside (length c.args.rest.now) path k d c.requires.path.0 c.loop-link-test.true, c.loop-link.auto.rest) in
    let back : to_z w128 (of_z w128 v) ≡ v = omega (arith, ints, c.plus.type_inv) in
    rw back (record {
      each = λ j. shift_more rest path k d c.args.by.now v (num c.args.rest.now j +ℤ (c.args.by.now *ℤ _)) j c.loop-link-test.true inside c.plus.ensures.value (c.loop-link.invariant.each j);
      bound = bound_more rest (get_or path k d).0 v (λ j. 2 ^ 101) k inside (omega (arith, c.plus.ensures.bound, c.loop-link.invariant.bound (get_or path k d).0)) c.loop-link.invariant.bound;
      top = bound_more rest (get_or path k d).0 v (λ j. unsigned_abs (num c.args.rest.now j)) k inside (omega (arith, c.plus.ensures.bound, c.loop-link.invariant.top (get_or path k d).0)) c.loop-link.invariant.top;
    })

pub returns-clause-each : goal.returns-clause-each
returns-clause-each c = λ j. shifted c.args.by.now (uses_end c.args.path.now c.loop-link.link-index j (omega (arith, c.loop-link-test.false))) (c.loop-link.invariant.each j)

pub returns-clause-bound : goal.returns-clause-bound
returns-clause-bound c = λ j. omega (arith, c.loop-link.invariant.top j, c.requires.path.1, c.loop-link.auto.link-index-end)
