use Rattle.std.proofs.Common.{◌≡◌, take}
use Rattle.view_svg.specs.Changes.{changed_flows}
use Rattle.view_svg.proofs.changes.changed_flows.Given as goal

-- those of the flows so far
abbrev pub invariant-loop-f : goal.invariant-loop-f
invariant-loop-f l = l.changed ≡ changed_flows l.normal (take l.f-index l.flows)
