use Rattle.std.proofs.Common.{[], arith}
use Rattle.text_kit.proofs.Lemmas.{adds_all, adds_next}
use Rattle.plan_report.specs.Items.{certificate_line_items}
use Rattle.plan_report.proofs.certificates.put_certificate_lines.Goals as goal

pub loop-line-preserved : goal.loop-line-preserved
loop-line-preserved c = adds_next [] certificate_line_items c.args.lines.now c.loop-line.line-index c.line-item.result c.loop-line-test.true c.line-item.is c.loop-line.invariant c.in_ok-put_certificate_line.ensures

pub returns : goal.returns
returns c = adds_all [] certificate_line_items c.args.lines.now c.loop-line.line-index (omega (arith, c.loop-line-test.false)) c.loop-line.invariant
