use Rattle.sndlib_reader.proofs.NamesLaws.{named_keys}
use Rattle.sndlib_reader.proofs.names.Names.has.Goals as goal

pub returns : goal.returns
returns c = rw (c.contains.ensures, ← c.self.view_is) (named_keys c.args.name.now c.self.inside.words.keys)
