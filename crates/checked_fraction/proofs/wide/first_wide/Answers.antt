use Rattle.std.proofs.Common.{◌≡◌, ◌<◌, ◌^◌, ◌∙◌, below_more, inl, inr, pos, refl, unsigned_abs, to_z, of_z, subst, sym, ◌≤◌, arith}
use Rattle.net_core.proofs.Library.{w128, ints}
use Rattle.checked_fraction.proofs.wide.first_wide.Goals as goal

pub returns-then-unsigned_abs-ge-WIDE-clause-wide : goal.returns-then-unsigned_abs-ge-WIDE-clause-wide
returns-then-unsigned_abs-ge-WIDE-clause-wide c =
    let v = c.reduced_at-value.result in
    let back : to_z w128 (of_z w128 v) ≡ v = omega (arith, ints, c.reduced_at-value.ensures.bound) in
    record {
      is_wide = omega (arith, c.unsigned_abs.ensures.value, c.if-unsigned_abs-ge-WIDE.true);
      stands = inl (c.loop-k-test.true, back ∙ c.reduced_at-value.ensures.value);
      first = c.loop-k.invariant;
    }

pub loop-k-preserved : goal.loop-k-preserved
loop-k-preserved c =
    let v = c.reduced_at-value.result in
    let back : to_z w128 (of_z w128 v) ≡ v = omega (arith, ints, c.reduced_at-value.ensures.bound) in
    let size : unsigned_abs (to_z w128 (of_z w128 v)) < 2 ^ 62 = omega (arith, c.unsigned_abs.ensures.value, c.if-unsigned_abs-ge-WIDE.false) in
    below_more _ _ c.loop-k.invariant (subst (λ x. unsigned_abs x < 2 ^ 62) (back ∙ c.reduced_at-value.ensures.value) size)

pub returns-then-den-ge-WIDE-clause-wide : goal.returns-then-den-ge-WIDE-clause-wide
returns-then-den-ge-WIDE-clause-wide c =
    let den : to_z w128 c.args.den ≡ pos c.args.den = omega (arith, ints, c.requires.den) in
    record {
      is_wide = subst (λ z. 2 ^ 62 ≤ unsigned_abs z) (sym den) c.if-den-ge-WIDE.true;
      stands = inr (refl, den);
      first = λ k l. c.loop-k.invariant k (omega (arith, l, c.loop-k-test.false));
    }

pub returns-clause-none : goal.returns-clause-none
returns-clause-none c = λ none. ((λ k l. c.loop-k.invariant k (omega (arith, l, c.loop-k-test.false))), c.if-den-ge-WIDE.false)
