use Rattle.text_kit.{proofs.Lemmas.each_turn, specs.Terms.word_at}
use Rattle.sndlib_reader.{specs.declared.fault.ReadKind.TheVariants.{Token, Ended}, specs.Reading.known_name, proofs.Online.known_some}
use Rattle.sndlib_reader.proofs.paths.take_link.Goals as goal

pub returns-clause-turn : goal.returns-clause-turn
returns-clause-turn c = each_turn (word_at Token Ended (known_name c.args.links.now)) (known_some c.args.links.now) _ _ _ c.in_default.ensures.1 (rw c.in_default.ensures.0 at c.in_ok-known.ensures)

pub returns-clause-shorter : goal.returns-clause-shorter
returns-clause-shorter c more = known_some c.args.links.now _ _ _ (rw c.in_default.ensures.0 at c.in_ok-known.ensures)
