use Rattle.std.proofs.Common.{codes}
use Rattle.model_reader.specs.Terms.{SpellsFailures, failures_of, failures_word}
use Rattle.plan_terms.specs.Terms.{States}
use Rattle.outside_io.specs.declared.status.Status.TheVariants.{BadFailures}
use Rattle.input_files.proofs.Refusing.{reading_refused}
use Rattle.input_files.proofs.inputs.states_of.Goals as goal

pub returns-in-Err-Bad-clause-refused : goal.returns-in-Err-Bad-clause-refused
returns-in-Err-Bad-clause-refused c =
    let links = c.args.net.now.links in
    reading_refused (λ (states : States). states.listed) (SpellsFailures links) (failures_of links) (codes "failures") failures_word BadFailures c.args.bytes.now c.in-Err-Bad.field-0 c.in-Err-Bad.at c.in-Err-Bad.kind c.refused.result
    c.in-Err-Bad.field-0-is c.in-Err-Bad.ensures.only c.in-Err-Bad.ensures.exact c.refused.ensures
