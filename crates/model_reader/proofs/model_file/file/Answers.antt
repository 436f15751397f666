use Rattle.model_reader.proofs.ModelLaws.{model_read}
use Rattle.model_reader.proofs.model_file.file.Goals as goal

pub returns : goal.returns
returns c =
    rw (c.model_of_settings.ensures, c.items.ensures)
    (model_read c.args.bytes.now c.in_ok-settings.settings _ c.in_ok-text.ensures.line (rw c.in_ok-text.ensures.text at c.in_ok-settings.ensures))
