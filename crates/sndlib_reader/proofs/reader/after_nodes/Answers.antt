use Rattle.sndlib_reader.proofs.reader.after_nodes.Goals as goal

pub returns-clause-links : goal.returns-clause-links
returns-clause-links c = (_, c.in_ok-links.ensures.reads)
