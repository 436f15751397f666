use Rattle.std.proofs.Common.{◌≡◌, map, take}
use Rattle.report_words.proofs.context.link_places.Given as goal

abbrev pub invariant-loop-link : goal.invariant-loop-link
invariant-loop-link l = l.places ≡ map (λ x. x.name) (take l.link-index l.links)
