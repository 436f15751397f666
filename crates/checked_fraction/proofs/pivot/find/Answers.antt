use Rattle.std.proofs.Common.{length, pos, sym, subst}
use Rattle.checked_fraction.{specs.Rows.IsReduced, specs.inner.Passes.{raw, over}, proofs.Reduced.reduces}
use Rattle.checked_fraction.proofs.pivot.find.Goals as goal

pub returns-in-Some-clause-wide : goal.returns-in-Some-clause-wide
returns-in-Some-clause-wide c =
    let f = raw c.args.nums.now c.args.pivot.now c.args.mix.now in
    let n = length c.args.nums.now in
    let g = c.take_survey-survey.result.common.value in
    let row = reduces f n c.args.whole g c.requires.some c.take_survey-survey.ensures.survey.common in
    (over f g, pos c.quotient-den.result, subst (λ x. IsReduced n f (pos c.args.whole) (over f g) (pos x)) (sym c.quotient-den.ensures) row, c.in-Some.ensures.wide)
