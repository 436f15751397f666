use Rattle.std.proofs.Common.{inr, subst}
use Rattle.net_core.proofs.Library.{IfOk-weaker}
use Rattle.plan_terms.specs.Terms.{case_of}
use Rattle.plan_reports.specs.ImportedPlans.{IsImportEnding}
use Rattle.command_answers.proofs.import.answer_ending.Goals as goal

pub answer_imported-requires : goal.answer_imported-requires
answer_imported-requires c =
    let i = c.args.instance.now in
    (c.requires.0, subst (IsImportEnding (case_of i) i.net.now.notes c.requires.0) c.in-Imported.is c.requires.1)

pub returns-in-Imported : goal.returns-in-Imported
returns-in-Imported c =
    let i = c.args.instance.now in
    IfOk-weaker c.answer_imported.result _ _ (λ a ends file is. ends file (subst (IsImportEnding (case_of i) i.net.now.notes file) c.in-Imported.is is)) c.answer_imported.ensures

pub returns-in-Faulty : goal.returns-in-Faulty
returns-in-Faulty c =
    let i = c.args.instance.now in
    IfOk-weaker c.answer_fault.result _ _ (λ a ends file is. ends file (subst (IsImportEnding (case_of i) i.net.now.notes file) c.in-Faulty.is is)) c.answer_fault.ensures

pub separated-requires : goal.separated-requires
separated-requires c =
    let i = c.args.instance.now in
    subst (IsImportEnding (case_of i) i.net.now.notes c.requires.0) c.in-Separated.is c.requires.1

pub returns-in-Separated : goal.returns-in-Separated
returns-in-Separated c = IfOk-weaker c.separated.result _ _ (λ a is file ending. inr (inr is)) c.separated.ensures
