use Rattle.std.proofs.Common.{All, subst, refl, take_all}
use Rattle.net_core.proofs.Library.{All-more}
use Rattle.plan_report.specs.Terms.{IsRouteColumnInForm}
use Rattle.tree_check.proofs.evidence.are_columns.Goals as goal

pub loop-column-preserved : goal.loop-column-preserved
loop-column-preserved c =
    let InForm = IsRouteColumnInForm c.args.instance.now.net.now.links c.args.instance.now.demands.now in
    All-more InForm c.args.basis.now c.loop-column.column-index c.column-item.result c.loop-column-test.true c.loop-column.invariant
    (subst InForm c.column-item.is (c.if-not-is_column.ensures.0 refl))

pub returns : goal.returns
returns c =
    let InForm = IsRouteColumnInForm c.args.instance.now.net.now.links c.args.instance.now.demands.now in
    (λ _. subst (All InForm) (take_all c.loop-column.column-index c.args.basis.now c.loop-column-test.false) c.loop-column.invariant, λ _. refl)
