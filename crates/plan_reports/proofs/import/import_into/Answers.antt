use Rattle.std.proofs.Common.{◌≡◌, ◌≢◌, subst, sym}
use Rattle.net_core.proofs.Library.{IfOk-weaker}
use Rattle.plan_terms.specs.Terms.{case_of}
use Rattle.flow_import.specs.declared.fault.ImportFault.TheVariants.{NoMemory}
use Rattle.plan_reports.{specs.ImportedPlans.IsImportEnding, specs.declared.import.ImportEnding.TheVariants.Faulty, proofs.Imported.{fault_told, imported_report}}
use Rattle.plan_reports.proofs.import.import_into.Goals as goal

pub returns-in-Ok : goal.returns-in-Ok
returns-in-Ok c =
    let i = c.args.instance.now in
    rw c.with_design.ensures
    (imported_report (case_of i) i.net.now.notes c.args.file c.args.planned c.requires.planned i.net.now.checked i.belong c.requires.file c.in-Ok.imported c.in-Ok.ensures.imported)

pub returns-in-Err : goal.returns-in-Err
returns-in-Err c =
    let i = c.args.instance.now in
    let Ends = IsImportEnding (case_of i) i.net.now.notes c.args.file in
    IfOk-weaker c.ended_by.result (λ e. (e ≡ Faulty c.in-Err.fault) × (c.in-Err.fault ≢ NoMemory)) Ends
    (λ e told. subst Ends (sym told.0) (fault_told (case_of i) i.net.now.notes c.args.file c.args.planned c.requires.planned c.in-Err.fault told.1 c.in-Err.ensures.fault))
    c.ended_by.ensures
