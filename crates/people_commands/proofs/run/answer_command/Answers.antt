use Rattle.std.proofs.Common.{subst, sym}
use Rattle.people_words.{specs.AskedCommands.{asked_form, people_command}, specs.declared.words.PeopleWords.PeopleWords}
use Rattle.people_files.specs.CaseInputs.{named_case}
use Rattle.people_commands.{specs.Endings.{EndsFailures, EndsPeopleCommand, EndsView}, specs.inner.Printing.HasPrintedCause, proofs.Causing.{alone_has, alone_reads}}
use Rattle.people_commands.proofs.run.answer_command.Goals as goal

pub returns-in-Help-clause-ends : goal.returns-in-Help-clause-ends
returns-in-Help-clause-ends g c =
    subst (λ (w : PeopleWords). HasPrintedCause (EndsPeopleCommand (g.S.Shelf.files c.args.shelf.now) (people_command w)) c.own_text.result) (sym c.in-Help.is)
    c.own_text.ensures.ends

pub returns-in-HelpOn-clause-ends : goal.returns-in-HelpOn-clause-ends
returns-in-HelpOn-clause-ends g c =
    subst (λ (w : PeopleWords). HasPrintedCause (EndsPeopleCommand (g.S.Shelf.files c.args.shelf.now) (people_command w)) c.own_text-in-HelpOn.result)
    (sym c.in-HelpOn.is) (rw c.topic_help.ensures at c.own_text-in-HelpOn.ensures.ends)

pub returns-in-Failures-clause-ends : goal.returns-in-Failures-clause-ends
returns-in-Failures-clause-ends g c =
    let files = g.S.Shelf.files c.args.shelf.now in
    subst (λ (w : PeopleWords). HasPrintedCause (EndsPeopleCommand files (people_command w)) c.alone.result) (sym c.in-Failures.is)
    (alone_has (EndsFailures files c.in-Failures.network.now) c.failures_file.result c.alone.result c.alone.ensures c.failures_file.ensures.ends)

pub returns-in-Failures-clause-shelf : goal.returns-in-Failures-clause-shelf
returns-in-Failures-clause-shelf g c =
    let shelf = c.failures_file.ensures.shelf in
    record {
      same = shelf.same;
      later = shelf.later;
      counted = λ failed. shelf.counted (alone_reads c.failures_file.result c.alone.result c.alone.ensures failed);
    }

pub returns-in-View-clause-ends : goal.returns-in-View-clause-ends
returns-in-View-clause-ends g c =
    let files = g.S.Shelf.files c.args.shelf.now in
    subst (λ (w : PeopleWords). HasPrintedCause (EndsPeopleCommand files (people_command w)) c.alone-in-View.result) (sym c.in-View.is)
    (alone_has (EndsView files (named_case c.in-View.view.case) c.in-View.view.report.now (asked_form c.in-View.view.form)) c.view_files.result c.alone-in-View.result c.alone-in-View.ensures
    c.view_files.ensures.ends)

pub returns-in-View-clause-shelf : goal.returns-in-View-clause-shelf
returns-in-View-clause-shelf g c =
    let shelf = c.view_files.ensures.shelf in
    record {
      same = shelf.same;
      later = shelf.later;
      counted = λ failed. shelf.counted (alone_reads c.view_files.result c.alone-in-View.result c.alone-in-View.ensures failed);
    }
