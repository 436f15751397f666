use Rattle.std.proofs.Common.{All, take}
use Rattle.plan_report.specs.Terms.{IsRouteColumnInForm}
use Rattle.tree_check.proofs.evidence.are_columns.Given as goal

-- the columns so far are in form
abbrev pub invariant-loop-column : goal.invariant-loop-column
invariant-loop-column l = All (IsRouteColumnInForm l.instance.net.now.links l.instance.demands.now) (take l.column-index l.basis)
