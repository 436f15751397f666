use Rattle.std.proofs.Common.{◌≡◌, ◌++◌, map}
use Rattle.sndlib_reader.proofs.costs.links_of.Given as goal

abbrev pub invariant-loop-l : goal.invariant-loop-l
invariant-loop-l l = map (λ c. c.link) l.fn.costed ≡ l.links ++ map (λ c. c.link) l.l-iterator.rest.items
