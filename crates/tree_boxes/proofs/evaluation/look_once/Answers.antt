use Rattle.std.proofs.Common.{arith}
use Rattle.tree_boxes.{specs.Searches.aimed, proofs.Extending.valued_on, proofs.Looking.valued_more}
use Rattle.tree_boxes.proofs.evaluation.look_once.Goals as goal

pub returns-in_default-2-clause-round : goal.returns-in_default-2-clause-round
returns-in_default-2-clause-round c =
    let a = c.args.aim.now in
    let better = c.in_ok-best.ensures in (
      valued_more (aimed a) a.plan.now c.args.search.now.known.tested c.args.boxed.now c.args.best c.in_ok-best.best c.requires.valued better.has better.more,
      omega (arith, c.if-best-aim.false),
    )

pub returns-in-More-clause-round : goal.returns-in-More-clause-round
returns-in-More-clause-round c =
    let a = c.args.aim.now in
    let old = c.args.search.now.known.tested in
    let better = c.in_ok-best.ensures in
    let valued = valued_more (aimed a) a.plan.now old c.args.boxed.now c.args.best c.in_ok-best.best c.requires.valued better.has better.more in (
      valued_on (aimed a) a.plan.now old c.try_whole.new.search.known.tested c.in_ok-cheaper.ensures.learned.tested c.args.boxed.now c.in_ok-best.best valued,
      omega (arith, c.if-best-aim.false),
    )

pub returns-clause-round : goal.returns-clause-round
returns-clause-round c =
    let a = c.args.aim.now in
    let old = c.args.search.now.known.tested in
    let better = c.in_ok-best.ensures in
    let valued = valued_more (aimed a) a.plan.now old c.args.boxed.now c.args.best c.in_ok-best.best c.requires.valued better.has better.more in (
      valued_on (aimed a) a.plan.now old c.try_whole.new.search.known.tested c.in_ok-cheaper.ensures.learned.tested c.args.boxed.now c.in_ok-best.best valued,
      omega (arith, c.if-best-aim.false),
    )
