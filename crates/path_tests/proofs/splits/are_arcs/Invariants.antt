use Rattle.std.proofs.Common.{All, take}
use Rattle.path_split.specs.Balances.{IsArc}
use Rattle.path_tests.proofs.splits.are_arcs.Given as goal

-- the arcs so far leave ends of their links
abbrev pub invariant-loop-arc : goal.invariant-loop-arc
invariant-loop-arc l = All (IsArc l.links) (take l.arc-index l.arcs)
