use Rattle.std.proofs.Common.{◌≡◌, ◌-◌, ◌*◌, None, Some, min, sym, ap, subst, ◌∙◌, arith}
use Rattle.plan_terms.specs.Terms.{raw_value}
use Rattle.plan_types.specs.Terms.{lines_of_certificate}
use Rattle.plan_view.{specs.Parts.{asked_in_state, given_in_state, paid_by}, specs.Rounding.IsNearest, specs.inner.Lines.{asked_among, given_among}, proofs.LineSums.raw_is}
use Rattle.plan_view.proofs.parts.part_of.Goals as goal

pub returns : goal.returns
returns c =
    let links = c.args.links.now in
    let lines = c.args.certificate.now.lines in
    let raw = raw_value links (lines_of_certificate c.args.certificate.now) in
    let whole : c.raw_among-whole.result ≡ raw =
    (c.raw_among-whole.ensures ∙ ap (λ ls. asked_among None ls - given_among links None ls) c.items-lines.ensures) ∙ sym (raw_is links c.args.certificate.now) in
    let own : c.raw_among.result ≡ asked_in_state lines c.args.state - given_in_state links lines c.args.state =
    c.raw_among.ensures ∙ ap (λ ls. asked_among (Some c.args.state) ls - given_among links (Some c.args.state) ls) c.items-lines.ensures in
    let paid : c.min.result ≡ min (asked_in_state lines c.args.state - given_in_state links lines c.args.state) raw = omega (arith, c.min.ensures, whole, own) in
    subst (λ w. IsNearest (1000 * paid_by links c.args.certificate.now c.args.state) w c.thousandths.result) whole
    (subst (λ n. IsNearest (1000 * n) c.raw_among-whole.result c.thousandths.result) paid c.thousandths.ensures.near)
