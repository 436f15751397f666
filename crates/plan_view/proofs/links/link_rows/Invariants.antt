use Rattle.plan_view.specs.Rows.{AreLinkRows}
use Rattle.plan_view.proofs.links.link_rows.Given as goal

-- the rows of the links so far
abbrev pub invariant-loop-e : goal.invariant-loop-e
invariant-loop-e l = AreLinkRows l.instance.net.now.links l.plan l.e l.rows
