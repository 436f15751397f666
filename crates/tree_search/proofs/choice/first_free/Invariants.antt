use Rattle.std.proofs.Common.{All, take}
use Rattle.tree_check.specs.Boxes.{IsFixedSpan}
use Rattle.tree_search.proofs.choice.first_free.Given as goal

-- the links so far have one choice of counts
abbrev pub invariant-loop-link : goal.invariant-loop-link
invariant-loop-link l = All (All IsFixedSpan) (take l.link l.boxed)
