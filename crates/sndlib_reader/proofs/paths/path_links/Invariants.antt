use Rattle.std.proofs.Common.{◌≡◌}
use Rattle.snd_tokens.specs.Terms.{left, size}
use Rattle.text_kit.specs.Terms.{each_at, word_at}
use Rattle.sndlib_reader.{specs.declared.fault.ReadKind.TheVariants.{Token, Ended}, specs.Reading.known_name}
use Rattle.sndlib_reader.proofs.paths.path_links.Given as goal

abbrev pub invariant-loop : goal.invariant-loop
invariant-loop l = each_at (word_at Token Ended (known_name l.links)) (left l.text) ≡ each_at (word_at Token Ended (known_name l.links)) (left l.initial.text)

abbrev pub decreases-loop : goal.decreases-loop
decreases-loop l = size (left l.text)
