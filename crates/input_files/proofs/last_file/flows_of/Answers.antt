use Rattle.std.proofs.Common.{codes}
use Rattle.plan_report.specs.Terms.{known_of}
use Rattle.flow_file.{specs.FlowFiles.SpellsFlows, specs.FlowKinds.flows_kind_word, specs.FlowReading.flows_of, specs.declared.flow.FlowFile.FlowFile}
use Rattle.outside_io.specs.declared.status.Status.TheVariants.{BadFlows}
use Rattle.input_files.proofs.Refusing.{reading_refused}
use Rattle.input_files.proofs.last_file.flows_of.Goals as goal

pub returns-in-Err-Bad-clause-refused : goal.returns-in-Err-Bad-clause-refused
returns-in-Err-Bad-clause-refused c =
    let names = known_of c.args.problem.now.net c.args.problem.now.states in
    let demands = c.args.problem.now.demands in
    reading_refused (λ (f : FlowFile). f) (SpellsFlows names demands) (flows_of names demands) (codes "flows") flows_kind_word BadFlows c.args.bytes.now c.in-Err-Bad.field-0 c.in-Err-Bad.at c.in-Err-Bad.kind c.refused.result
    c.in-Err-Bad.field-0-is c.in-Err-Bad.ensures.only c.in-Err-Bad.ensures.exact c.refused.ensures
