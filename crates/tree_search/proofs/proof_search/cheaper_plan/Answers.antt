use Rattle.std.{proofs.Common.{◌∙◌, ◌<◌, ap}, proofs.lemmas.Result.IfOk-weaker}
use Rattle.plan_terms.specs.Terms.{case_of}
use Rattle.plan_types.specs.declared.plan.Plan.{Plan}
use Rattle.tree_boxes.specs.Terms.{IsCheaperPlan}
use Rattle.tree_search.proofs.Restarts.{made_cheaper, swapped_cheaper}
use Rattle.tree_search.proofs.proof_search.cheaper_plan.Goals as goal

pub swap-requires-clause-demands : goal.swap-requires-clause-demands
swap-requires-clause-demands c = ap (λ (x : Plan). x.demands) c.with_cheaper.ensures ∙ c.requires.demands

pub swap-requires-clause-routed : goal.swap-requires-clause-routed
swap-requires-clause-routed c =
    let p = case_of c.args.instance.now in
    (made_cheaper p c.args.plan c.with_cheaper.result c.args.cheaper c.with_cheaper.ensures c.requires.demands c.requires.routed c.requires.cheaper).routed

pub returns-clause-plan : goal.returns-clause-plan
returns-clause-plan c =
    let p = case_of c.args.instance.now in
    let made = c.with_cheaper.result in
    IfOk-weaker c.swap.result (IsCheaperPlan p made) (IsCheaperPlan p c.args.plan)
    (λ (swapped : Plan) is.
    (swapped_cheaper p c.args.plan made c.args.cheaper c.with_cheaper.ensures c.requires.demands c.requires.routed c.requires.cheaper swapped is).0)
    c.swap.ensures

pub returns-clause-less : goal.returns-clause-less
returns-clause-less c =
    let p = case_of c.args.instance.now in
    let made = c.with_cheaper.result in
    IfOk-weaker c.swap.result (IsCheaperPlan p made) (λ (swapped : Plan). swapped.cost < c.args.plan.cost)
    (λ (swapped : Plan) is.
    (swapped_cheaper p c.args.plan made c.args.cheaper c.with_cheaper.ensures c.requires.demands c.requires.routed c.requires.cheaper swapped is).1)
    c.swap.ensures
