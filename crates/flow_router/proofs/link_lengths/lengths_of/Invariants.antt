use Rattle.std.proofs.Common.{◌≡◌, take}
use Rattle.flow_router.specs.inner.Lengths.{each_over}
use Rattle.flow_router.proofs.link_lengths.lengths_of.Given as goal

-- the lengths so far
abbrev pub invariant-loop-e : goal.invariant-loop-e
invariant-loop-e l = l.lengths ≡ each_over l.common (take l.e l.prices)
