use Rattle.std.proofs.Common.{◌∙◌, arith}
use Rattle.line_check.proofs.LinesMade.{coefficients_all, coefficients_more}
use Rattle.line_check.proofs.inequality.all_coefs.Goals as goal

pub loop-e-preserved : goal.loop-e-preserved
loop-e-preserved c =
    let link = c.index-links-e.result in
    let more = coefficients_more c.args.lengths.now c.args.links.now c.loop-e.e link (omega (arith, c.loop-e-test.true, c.requires)) c.loop-e-test.true in
    let pushed = c.in_ok-push.ensures.ok in
    let made = c.in_ok-link_coefs.ensures in
    cc (pushed, made, more, c.index-links-e.is, c.items.ensures, c.loop-e.invariant)

pub returns : goal.returns
returns c = c.loop-e.invariant ∙ coefficients_all c.args.lengths.now c.args.links.now c.loop-e.e c.requires c.loop-e-test.false
