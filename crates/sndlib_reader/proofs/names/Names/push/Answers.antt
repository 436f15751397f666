use Rattle.sndlib_reader.proofs.NamesLaws.{key_pushed}
use Rattle.sndlib_reader.proofs.names.Names.push.Goals as goal

pub returns : goal.returns
returns c = rw (c.in_ok-insert.ensures.keys, ← c.self.view_is) (key_pushed c.args.name c.self.inside.words.keys (rw (← c.self.view_is) at c.requires))
