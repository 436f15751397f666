use Rattle.std.proofs.Common.{arith, ◌≡◌, w64, to_z, of_z, ap, subst, sym, ◌∙◌, int_div, pos, ◌*ℤ◌, ◌-ℤ◌}
use Rattle.net_core.proofs.Library.{ints}
use Rattle.checked_fraction.{specs.Rows.{num, IsNarrow}, proofs.Writing.write_one}
use Rattle.checked_fraction.proofs.pivot.write.Goals as goal

pub loop-k-preserved : goal.loop-k-preserved
loop-k-preserved c =
    let back : to_z w64 (of_z w64 c.narrow_at.result) ≡ c.narrow_at.result = omega (arith, ints, c.narrow_at.type_inv) in
    rw back (write_one _ _ _ _ _ (omega (arith, c.loop-k-test.true, c.loop-k.auto.nums))
    (c.narrow_at.ensures.value ∙ ap (λ x. int_div ((x *ℤ c.args.mix.now.q) -ℤ (c.args.mix.now.p *ℤ num c.args.pivot.now c.loop-k.k)) (pos c.args.divisor.now.value)) (c.loop-k.invariant.rest _ (omega arith)))
    c.narrow_at.ensures.bound c.loop-k.invariant)

pub narrow_at-requires-clause-can_mix : goal.narrow_at-requires-clause-can_mix
narrow_at-requires-clause-can_mix c =
    let mix = c.requires.can_mix in
    record { equal = c.loop-k.auto.nums ∙ mix.equal; row = c.loop-k.invariant.narrow; other = mix.other; p = mix.p; q = mix.q }

pub narrow_at-requires-clause-narrow : goal.narrow_at-requires-clause-narrow
narrow_at-requires-clause-narrow c =
    subst (λ x. IsNarrow (int_div ((x *ℤ c.args.mix.now.q) -ℤ (c.args.mix.now.p *ℤ num c.args.pivot.now c.loop-k.k)) (pos c.args.divisor.now.value)))
    (sym (c.loop-k.invariant.rest c.loop-k.k (omega arith))) (c.requires.within c.loop-k.k c.loop-k-test.true)

pub returns-clause-each : goal.returns-clause-each
returns-clause-each c = λ k l. c.loop-k.invariant.done k (omega (arith, l, c.loop-k-test.false))

pub returns-clause-narrow : goal.returns-clause-narrow
returns-clause-narrow c = c.loop-k.invariant.narrow
