use Rattle.text_kit.proofs.Files.{written_is_read}
use Rattle.text_kit.proofs.law.written_is_read.Goals as goal

pub returns : goal.returns
returns c = written_is_read
