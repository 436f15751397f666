use Rattle.std.proofs.Common.{take, flat_map}
use Rattle.text_kit.specs.Terms.{AddsItems}
use Rattle.plan_report.specs.Items.{certificate_line_items}
use Rattle.plan_report.proofs.certificates.put_certificate_lines.Given as goal

abbrev pub invariant-loop-line : goal.invariant-loop-line
invariant-loop-line l = AddsItems l.fn.text (flat_map certificate_line_items (take l.line-index l.lines)) l.text
