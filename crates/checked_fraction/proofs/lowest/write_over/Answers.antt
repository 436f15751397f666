use Rattle.std.proofs.Common.{arith, ◌≡◌, w64, to_z, of_z}
use Rattle.net_core.proofs.Library.{ints}
use Rattle.checked_fraction.proofs.Writing.{write_one}
use Rattle.checked_fraction.proofs.lowest.write_over.Goals as goal

pub loop-k-preserved : goal.loop-k-preserved
loop-k-preserved c =
    let back : to_z w64 (of_z w64 c.narrow_over.result) ≡ c.narrow_over.result = omega (arith, ints, c.narrow_over.type_inv) in
    rw back (write_one _ _ _ _ _ (omega (arith, c.loop-k-test.true, c.loop-k.auto.nums)) c.narrow_over.ensures.value c.narrow_over.ensures.narrow c.loop-k.invariant)
