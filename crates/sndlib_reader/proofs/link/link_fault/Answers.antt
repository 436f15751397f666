use Rattle.std.proofs.Common.{refl}
use Rattle.sndlib_reader.proofs.NamesLaws.{named_map}
use Rattle.sndlib_reader.proofs.link.link_fault.Goals as goal

pub returns-clause-value : goal.returns-clause-value
returns-clause-value c = rw (c.new_name_fault.ensures.value, c.has.ensures, c.requires, named_map (λ l. l.link.name) c.args.word.now c.args.links.now) refl
