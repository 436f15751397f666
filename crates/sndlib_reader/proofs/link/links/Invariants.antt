use Rattle.std.proofs.Common.{◌≡◌, [], map}
use Rattle.snd_tokens.specs.Terms.{left, size}
use Rattle.sndlib_reader.specs.Reading.{costed_links_at}
use Rattle.sndlib_reader.proofs.link.links.Given as goal

abbrev pub invariant-loop-names : goal.invariant-loop-names
invariant-loop-names l = (costed_links_at l.places l.nodes l.all (left l.text) ≡ costed_links_at l.places l.nodes [] (left l.fn.text)) × (l.names ≡ map (λ x. x.link.name) l.all)

abbrev pub decreases-loop-names : goal.decreases-loop-names
decreases-loop-names l = size (left l.text)
