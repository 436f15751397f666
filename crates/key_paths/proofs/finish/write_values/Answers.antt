use Rattle.std.proofs.Common.{length, ap, arith}
use Rattle.key_paths.proofs.Fitting.{role_written}
use Rattle.key_paths.proofs.finish.write_values.Goals as goal

pub bounds-values-places : goal.bounds-values-places
bounds-values-places c = rw c.items-places.ensures (omega (
  arith,
  c.requires.shaped.inside c.loop-role.role (omega (arith, c.loop-role-test.true, ap length c.items-places.ensures, c.requires.shaped.places)),
  c.requires.shaped.places,
  c.requires.count,
  c.loop-role.auto.values,
))

pub loop-role-preserved : goal.loop-role-preserved
loop-role-preserved c =
    let b = c.args.keyed.now in
    rw c.items-places.ensures (role_written b c.args.all c.loop-role.role c.value_in_role.result c.loop-role.values c.requires.apart (omega (arith, c.loop-role-test.true, ap length c.items-places.ensures))
    (omega (
      arith,
      c.requires.shaped.inside c.loop-role.role (omega (arith, c.loop-role-test.true, ap length c.items-places.ensures, c.requires.shaped.places)),
      c.requires.shaped.places,
      c.requires.count,
      c.loop-role.auto.values,
    ))
    c.value_in_role.ensures c.loop-role.invariant)
