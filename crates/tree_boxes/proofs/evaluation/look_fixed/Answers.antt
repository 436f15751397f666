use Rattle.std.proofs.Common.{◌∙◌, Err, ℕ, List, ap, arith, subst}
use Rattle.plan_swaps.specs.Terms.{IsWideSomewhere, whole_caps}
use Rattle.plan_terms.specs.Terms.{Violates, capacities, total_cost}
use Rattle.tree_boxes.{specs.inner.Asking.IsAnswerTo, specs.Searches.{aimed, handed_in}, proofs.Looking.{cheaper_than, fixed_cheaper, stuck_found, violated_found}}
use Rattle.tree_boxes.proofs.evaluation.look_fixed.Goals as goal

pub returns-in-Ok-clause-found : goal.returns-in-Ok-clause-found
returns-in-Ok-clause-found c =
    let a = c.args.aim.now in
    let p = aimed a in
    let answer = subst (IsAnswerTo p c.args.counts) c.in-Ok.is c.in_ok-cheaper.ensures.answer in
    let cheaper = fixed_cheaper p a.plan.now (handed_in c.args.search.now) c.args.depth c.args.boxed.now a.instance.now.net.now.checked c.requires.search_box c.requires.low c.requires.unsettled in
    cheaper_than p (total_cost p.links c.args.counts) a.plan.now.cost c.in-Ok.cheaper (omega (arith, cheaper, ap (λ (cs : List (List ℕ)). total_cost p.links cs) c.requires.counts)) answer

pub returns-in_ok-push-in-Err-Cut-clause-found : goal.returns-in_ok-push-in-Err-Cut-clause-found
returns-in_ok-push-in-Err-Cut-clause-found c =
    let a = c.args.aim.now in
    let p = aimed a in
    let old = c.args.search.now.known in
    let new = c.push.new.self in
    let handed = handed_in c.args.search.now in
    let answer = subst (IsAnswerTo p c.args.counts) (c.in-Err-Cut.is ∙ ap Err c.in-Err-Cut.field-0-is) c.in_ok-cheaper.ensures.answer in
    let violates = subst (λ (cs : List (List ℕ)). Violates (whole_caps (capacities p.links cs)) c.in-Err-Cut.line) c.requires.counts answer.1 in
    violated_found p a.plan.now handed old new c.in-Err-Cut.line c.args.depth _ c.args.boxed.now (omega (arith, c.len-cut.ensures, c.requires.room)) c.requires.search_box.shape c.requires.fixed
    c.in_ok-push-in-Err-Cut.ensures.entries c.in_ok-push-in-Err-Cut.ensures.known answer.0 violates

pub returns-in-Err-Wide-clause-found : goal.returns-in-Err-Wide-clause-found
returns-in-Err-Wide-clause-found c =
    let a = c.args.aim.now in
    let p = aimed a in
    let answer = subst (IsAnswerTo p c.args.counts) (c.in-Err-Wide.is ∙ ap Err c.in-Err-Wide.field-0-is) c.in_ok-cheaper.ensures.answer in
    let wide = subst (λ (cs : List (List ℕ)). IsWideSomewhere p (whole_caps (capacities p.links cs)) c.in-Err-Wide.evidence) c.requires.counts answer in
    stuck_found p a.plan.now (handed_in c.args.search.now) c.args.search.now.known.tested c.args.depth c.args.boxed.now c.args.best c.in-Err-Wide.evidence a.instance.now.net.now.checked a.instance.now.belong
    c.requires.search_box c.requires.low c.requires.fixed c.requires.valued c.requires.below wide
