use Rattle.session_script.proofs.ScriptLaws.{script_read}
use Rattle.session_script.proofs.reader.file.Goals as goal

pub returns : goal.returns
returns c =
    script_read c.args.places c.args.bytes.now c.in_ok-commands.commands _ c.in_ok-text.ensures.line (rw c.in_ok-text.ensures.text at c.in_ok-commands.ensures)
