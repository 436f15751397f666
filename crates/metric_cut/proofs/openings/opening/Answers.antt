use Rattle.std.proofs.Common.{All, List, map, subst, sym}
use Rattle.net_core.proofs.Library.{IfOk-weaker}
use Rattle.plan_terms.specs.Terms.{graph, AreOpening}
use Rattle.metric_cut.{specs.Cuts.IsCutOf, specs.declared.cut.Cut.Cut, proofs.KeptCuts.{are_opening, opening_cuts}}
use Rattle.metric_cut.proofs.openings.opening.Goals as goal

pub returns-clause-each : goal.returns-clause-each
returns-clause-each c =
    let g = graph c.args.net.now c.args.states.now c.args.state.0 in
    let price = c.in_ok-price.ensures in
    IfOk-weaker c.each_once.result _ _ (λ cuts is. subst (All (IsCutOf g)) (sym is) (opening_cuts g _ _ c.in_ok-unit.unit c.in_ok-price.price c.in_ok-unit.ensures price.2)) c.each_once.ensures

pub returns-clause-opening : goal.returns-clause-opening
returns-clause-opening c =
    let g = graph c.args.net.now c.args.states.now c.args.state.0 in
    let price = c.in_ok-price.ensures in
    IfOk-weaker c.each_once.result _ _
    (λ cuts is. subst (λ (all : List Cut). AreOpening g (map (λ cut. cut.lengths) all)) (sym is) (are_opening g price.0 c.in_ok-unit.unit c.in_ok-price.price price.1 c.in_ok-unit.ensures price.2))
    c.each_once.ensures
