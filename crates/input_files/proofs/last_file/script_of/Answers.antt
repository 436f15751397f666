use Rattle.std.proofs.Common.{codes}
use Rattle.session_script.{specs.Terms.{script_kind_word, script_of, SpellsScript}, specs.declared.script.Script.Script}
use Rattle.outside_io.specs.declared.status.Status.TheVariants.{BadScript}
use Rattle.input_files.proofs.Refusing.{reading_refused}
use Rattle.input_files.proofs.last_file.script_of.Goals as goal

pub returns-in-Err-Bad-clause-refused : goal.returns-in-Err-Bad-clause-refused
returns-in-Err-Bad-clause-refused c =
    reading_refused (λ (script : Script). script) (SpellsScript c.args.places) (script_of c.args.places) (codes "script") script_kind_word BadScript c.args.bytes.now c.in-Err-Bad.field-0 c.in-Err-Bad.at c.in-Err-Bad.kind c.refused.result
    c.in-Err-Bad.field-0-is c.in-Err-Bad.ensures.only c.in-Err-Bad.ensures.exact c.refused.ensures
