use Rattle.std.proofs.Common.{arith, ◌≡◌, w64, to_z, of_z, ap, ◌∙◌, int_div, pos}
use Rattle.net_core.proofs.Library.{ints}
use Rattle.checked_fraction.proofs.Writing.{write_one}
use Rattle.checked_fraction.proofs.scale.divide.Goals as goal

pub loop-k-preserved : goal.loop-k-preserved
loop-k-preserved c =
    let back : to_z w64 (of_z w64 c.quotient.result) ≡ c.quotient.result = omega (arith, ints, c.quotient.type_inv) in
    rw back (write_one _ _ _ _ _ (omega (arith, c.loop-k-test.true, c.loop-k.auto.nums))
    (c.quotient.ensures.value ∙ ap (λ x. int_div x (pos c.args.g)) (c.loop-k.invariant.rest _ (omega arith)))
    c.quotient.ensures.bound c.loop-k.invariant)
