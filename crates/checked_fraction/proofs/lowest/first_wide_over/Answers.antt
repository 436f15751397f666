use Rattle.std.proofs.Common.{◌≡◌, ◌<◌, ◌^◌, ◌∙◌, below_more, unsigned_abs, to_z, of_z, subst, arith}
use Rattle.net_core.proofs.Library.{w128, ints}
use Rattle.checked_fraction.proofs.lowest.first_wide_over.Goals as goal

pub returns-then-unsigned_abs-ge-WIDE-clause-wide : goal.returns-then-unsigned_abs-ge-WIDE-clause-wide
returns-then-unsigned_abs-ge-WIDE-clause-wide c =
    let v = c.over_at-value.result in
    let back : to_z w128 (of_z w128 v) ≡ v = omega (arith, ints, c.over_at-value.type_inv) in
    record {
      inside = c.loop-k-test.true;
      value = back ∙ c.over_at-value.ensures.value;
      is_wide = omega (arith, c.unsigned_abs.ensures.value, c.if-unsigned_abs-ge-WIDE.true);
      before = c.loop-k.invariant;
    }

pub loop-k-preserved : goal.loop-k-preserved
loop-k-preserved c =
    let v = c.over_at-value.result in
    let back : to_z w128 (of_z w128 v) ≡ v = omega (arith, ints, c.over_at-value.type_inv) in
    let size : unsigned_abs (to_z w128 (of_z w128 v)) < 2 ^ 62 = omega (arith, c.unsigned_abs.ensures.value, c.if-unsigned_abs-ge-WIDE.false) in
    below_more _ _ c.loop-k.invariant (subst (λ x. unsigned_abs x < 2 ^ 62) (back ∙ c.over_at-value.ensures.value) size)
