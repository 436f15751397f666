use Rattle.sndlib_reader.proofs.Whole.{file_answers}
use Rattle.sndlib_reader.proofs.reader.file.Goals as goal

pub returns : goal.returns
returns c = file_answers c.args.places c.args.bytes.now c.sections.result _ c.in_ok-text.ensures.line (rw c.in_ok-text.ensures.text at c.sections.ensures)
