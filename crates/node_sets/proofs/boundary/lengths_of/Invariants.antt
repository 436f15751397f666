use Rattle.std.proofs.Common.{◌≡◌, take}
use Rattle.node_sets.{specs.Boundaries.boundary_lengths, specs.inner.Members.is_in}
use Rattle.node_sets.proofs.boundary.lengths_of.Given as goal

-- the lengths so far are those of the links so far
abbrev pub invariant-loop-link : goal.invariant-loop-link
invariant-loop-link l = l.lengths ≡ boundary_lengths (is_in l.set) (take l.link-index l.links)
