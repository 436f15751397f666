use Rattle.std.{proofs.Common.{map, take}, specs.List.AllZip}
use Rattle.tree_boxes.proofs.OwnValues.{IsOwnLine}
use Rattle.tree_boxes.specs.Terms.entry
use Rattle.tree_search.proofs.own_cert.own_cert.Given as goal

-- the lines so far
abbrev pub invariant-loop-line : goal.invariant-loop-line
invariant-loop-line l = AllZip (IsOwnLine (map entry.Cut l.fn.cuts)) l.lines (take l.line-index l.fn.plan.certificate.lines)
