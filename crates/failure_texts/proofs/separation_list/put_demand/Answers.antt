use Rattle.std.proofs.Common.{◌∙◌, ◌+◌, List, false, refl, ap, arith, get_or, subst, sym}
use Rattle.net_core.proofs.Library.{both_ways}
use Rattle.plan_terms.specs.Terms.{Demand, case_of}
use Rattle.failure_texts.{specs.inner.SeparationsSoFar.AreSeparationsBefore, proofs.Growing.{passed_before, pushed_before}, proofs.Reaching.{far_separates, separates_far}}
use Rattle.failure_texts.proofs.separation_list.put_demand.Goals as goal

pub returns-in_ok-push : goal.returns-in_ok-push
returns-in_ok-push c =
    let i = c.args.instance.now in
    let p = case_of i in
    let d = c.index-items-k.result in
    let here = c.index-items-k.is ∙ ap (λ (xs : List Demand). get_or xs c.args.k d) c.items.ensures in
    let sep = far_separates p c.args.state.0 c.args.k c.args.table.now c.requires.table i.belong d c.requires.inside here (c.is_separated.ensures.0 c.if-is_separated.true) in
    let low = c.requires.state in
    subst (AreSeparationsBefore p c.args.state.0 (c.args.k + 1)) (sym c.in_ok-push.ensures.ok)
    (pushed_before p c.args.state.0 c.args.k c.args.found.now c.requires.found (omega (arith, low)) sep)

pub returns-else-is_separated : goal.returns-else-is_separated
returns-else-is_separated c =
    let i = c.args.instance.now in
    let p = case_of i in
    let d = c.index-items-k.result in
    let here = c.index-items-k.is ∙ ap (λ (xs : List Demand). get_or xs c.args.k d) c.items.ensures in
    passed_before p c.args.state.0 c.args.k c.args.found.now c.requires.found
    (λ sep. both_ways false refl (c.if-is_separated.ensures.1 (separates_far p c.args.state.0 c.args.k c.args.table.now c.requires.table i.belong d c.requires.inside here sep)))
