use Rattle.plan_report.specs.Terms.{known_of}
use Rattle.report_reader.proofs.Whole.{file_answer}
use Rattle.report_reader.proofs.reader.file.Goals as goal

pub returns : goal.returns
returns c = file_answer (known_of c.args.net.now c.args.states.now) c.args.bytes.now c.report.result _ (rw (c.header.ensures, c.places.ensures) at c.in_ok-text.ensures.line)
    (rw (c.in_ok-text.ensures.text, c.in_ok-context.ensures.net, c.in_ok-context.ensures.states) at c.report.ensures)
