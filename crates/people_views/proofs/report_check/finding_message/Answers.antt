use Rattle.std.proofs.Common.{◌≡◌, ◌∙◌, refl}
use Rattle.fault_messages.specs.FindingMessages.{finding_message}
use Rattle.people_views.specs.ReportEnds.{said_text}
use Rattle.people_views.proofs.report_check.finding_message.Goals as goal

pub returns : goal.returns
returns c =
    let line = c.in_ok-line.line in
    let says = c.finding_sentence.ensures in
    let first : c.put_said.new.text ≡ said_text c.args.name.now (finding_message c.args.finding) = rw (c.new-text.ensures, says.0, says.1) at c.in_ok-put_said.ensures in
    (line, c.in_ok-line.ensures, c.in_ok-append.ensures.ok ∙ rw (first, c.items.ensures) refl)
