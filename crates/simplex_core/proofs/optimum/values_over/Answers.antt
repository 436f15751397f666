use Rattle.std.proofs.Common.{◌≡◌, ◌<◌, ◌*◌, ◌/◌, ◌^◌, [], ◌∷◌, Some, length, length-append, slice_get, ap, sym, ◌∙◌, subst, arith}
use Rattle.net_core.proofs.Library.{slice_get-get_or}
use Rattle.simplex_core.{specs.inner.Commons.{num_of_fraction, den_of_fraction, value_at}, specs.inner.Shapes.AtEach, proofs.Starts.each_push}
use Rattle.simplex_core.proofs.optimum.values_over.Goals as goal

pub numerator_over-requires : goal.numerator_over-requires
numerator_over-requires c =
    let all = c.args.fractions.now in
    let den = c.args.den in
    let f = c.index-fractions-i.result in
    let at : slice_get all c.loop-i.i ≡ Some f = slice_get-get_or all c.loop-i.i f c.loop-i-test.true ∙ ap Some (sym c.index-fractions-i.is) in
    subst (λ o. num_of_fraction o * (den / den_of_fraction o) < 2 ^ 124) at (c.requires c.loop-i.i c.loop-i-test.true)

pub loop-i-preserved : goal.loop-i-preserved
loop-i-preserved c =
    let all = c.args.fractions.now in
    let den = c.args.den in
    let xs = c.loop-i.values in
    let v = c.numerator_over.result in
    let f = c.index-fractions-i.result in
    let count = c.loop-i.invariant.0 in
    let made = c.in_ok-push.ensures.ok in
    let at : slice_get all c.loop-i.i ≡ Some f = slice_get-get_or all c.loop-i.i f c.loop-i-test.true ∙ ap Some (sym c.index-fractions-i.is) in
    let here : v ≡ value_at all den c.loop-i.i = subst (λ o. v ≡ num_of_fraction o * (den / den_of_fraction o)) (sym at) c.numerator_over.ensures in (
      omega (arith, ap length made, length-append xs (v ∷ []), count),
      subst (AtEach (λ j x. x ≡ value_at all den j)) (sym made)
          (each_push (λ j x. x ≡ value_at all den j) xs v c.loop-i.invariant.1 (subst (λ k. v ≡ value_at all den k) (sym count) here)),
    )
