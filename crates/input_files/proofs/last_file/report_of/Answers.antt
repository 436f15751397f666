use Rattle.std.proofs.Common.{codes}
use Rattle.plan_report.specs.Terms.{known_of, SpellsReport, Report}
use Rattle.report_reader.specs.ReadingReport.{report_of}
use Rattle.report_words.specs.Terms.{report_kind_word}
use Rattle.outside_io.specs.declared.status.Status.TheVariants.{BadReport}
use Rattle.input_files.proofs.Refusing.{reading_refused}
use Rattle.input_files.proofs.last_file.report_of.Goals as goal

pub returns-in-Err-Bad-clause-refused : goal.returns-in-Err-Bad-clause-refused
returns-in-Err-Bad-clause-refused c =
    let names = known_of c.args.problem.now.net c.args.problem.now.states in
    reading_refused (λ (r : Report). r) (SpellsReport names) (report_of names) (codes "report") report_kind_word BadReport c.args.bytes.now c.in-Err-Bad.field-0 c.in-Err-Bad.at c.in-Err-Bad.kind c.refused.result
    c.in-Err-Bad.field-0-is c.in-Err-Bad.ensures.only c.in-Err-Bad.ensures.exact c.refused.ensures
