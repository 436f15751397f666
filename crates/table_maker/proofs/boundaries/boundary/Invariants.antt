use Rattle.std.proofs.Common.{◌≡◌, map, take, nat_eq, slice_index}
use Rattle.table_maker.specs.SetCuts.{boundary_of}
use Rattle.table_maker.proofs.boundaries.boundary.Given as goal

-- a length for each link so far
abbrev pub invariant-loop-link : goal.invariant-loop-link
invariant-loop-link l = l.lengths ≡ map (boundary_of (λ n. nat_eq (slice_index l.marks n) l.mark)) (take l.link-index l.links)
