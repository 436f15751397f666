use Rattle.std.proofs.Common.{codes}
use Rattle.model_reader.{specs.Terms.{model_word, model_of, SpellsModel}, specs.declared.model.Model.Model}
use Rattle.outside_io.specs.declared.status.Status.TheVariants.{BadModel}
use Rattle.input_files.proofs.Refusing.{reading_refused}
use Rattle.input_files.proofs.inputs.model_of.Goals as goal

pub returns-in-Err-Bad-clause-refused : goal.returns-in-Err-Bad-clause-refused
returns-in-Err-Bad-clause-refused c =
    reading_refused (λ (m : Model). m) SpellsModel model_of (codes "model") model_word BadModel c.args.bytes.now c.in-Err-Bad.field-0 c.in-Err-Bad.at c.in-Err-Bad.kind c.refused.result
    c.in-Err-Bad.field-0-is c.in-Err-Bad.ensures.only c.in-Err-Bad.ensures.exact c.refused.ensures
