use Rattle.sndlib_reader.proofs.NamesLaws.{place_keys}
use Rattle.sndlib_reader.proofs.names.Names.place.Goals as goal

pub returns : goal.returns
returns c = rw (c.get_index_of.ensures.index, ← c.self.view_is) (place_keys c.args.name.now c.self.inside.words.keys)
