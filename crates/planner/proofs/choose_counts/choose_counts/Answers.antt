use Rattle.std.proofs.lemmas.Result.{IfOk-weaker}
use Rattle.planner.proofs.choose_counts.choose_counts.Goals as goal

pub fallback_plan-requires-clause-demands : goal.fallback_plan-requires-clause-demands
fallback_plan-requires-clause-demands c = c.args.instance.now.belong

pub fallback_plan-requires-clause-survivable : goal.fallback_plan-requires-clause-survivable
fallback_plan-requires-clause-survivable c = c.requires.survivable

pub choose_beside-requires-clause-survivable : goal.choose_beside-requires-clause-survivable
choose_beside-requires-clause-survivable c = c.requires.survivable

pub choose_beside-requires-clause-fallback : goal.choose_beside-requires-clause-fallback
choose_beside-requires-clause-fallback c = c.in-Ok.ensures.fallback

pub choose_beside-requires-clause-narrow : goal.choose_beside-requires-clause-narrow
choose_beside-requires-clause-narrow c = c.in-Ok.ensures.narrow

pub choose_beside-requires-clause-best : goal.choose_beside-requires-clause-best
choose_beside-requires-clause-best c = c.requires.best

pub returns-in-Ok : goal.returns-in-Ok
returns-in-Ok c =
    IfOk-weaker c.choose_beside.result _ _
    (λ chosen is. record {
      fallback = c.in-Ok.fallback;
      is_fallback = c.in-Ok.ensures.fallback;
      narrow = c.in-Ok.ensures.narrow;
      is_chosen = is;
    })
    c.choose_beside.ensures
