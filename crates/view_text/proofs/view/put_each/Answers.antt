use Rattle.std.proofs.Common.{arith}
use Rattle.plan_view.specs.Terms.{problem_case}
use Rattle.view_text.proofs.Views.{all_views, next_views, no_views}
use Rattle.view_text.proofs.view.put_each.Goals as goal

pub loop-outcome-init : goal.loop-outcome-init
loop-outcome-init c = no_views (problem_case c.args.problem.now) c.args.text.now

pub loop-outcome-preserved : goal.loop-outcome-preserved
loop-outcome-preserved c = next_views (problem_case c.args.problem.now) c.args.outcomes.now c.loop-outcome.outcome-index c.outcome-item.result
    c.args.text.now c.loop-outcome.text c.put_numbered.new.text
    c.loop-outcome-test.true c.outcome-item.is c.loop-outcome.invariant c.in_ok-put_numbered.ensures

pub returns : goal.returns
returns c = all_views (problem_case c.args.problem.now) c.args.outcomes.now c.loop-outcome.outcome-index
    c.args.text.now c.loop-outcome.text (omega (arith, c.loop-outcome-test.false)) c.loop-outcome.invariant
