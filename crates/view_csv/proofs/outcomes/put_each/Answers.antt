use Rattle.std.proofs.Common.{arith}
use Rattle.plan_view.specs.Terms.{problem_case}
use Rattle.view_csv.proofs.PlanRows.{all_rows, next_rows, no_outcomes}
use Rattle.view_csv.proofs.outcomes.put_each.Goals as goal

pub loop-outcome-init : goal.loop-outcome-init
loop-outcome-init c = no_outcomes c.args.sheet (problem_case c.args.problem.now) c.args.all.now

pub loop-outcome-preserved : goal.loop-outcome-preserved
loop-outcome-preserved c = next_rows c.args.sheet (problem_case c.args.problem.now) c.args.outcomes.now c.loop-outcome.outcome-index c.outcome-item.result
    c.args.all.now c.loop-outcome.all c.put_outcome.new.all
    c.loop-outcome-test.true c.outcome-item.is c.loop-outcome.invariant c.in_ok-put_outcome.ensures

pub returns : goal.returns
returns c = all_rows c.args.sheet (problem_case c.args.problem.now) c.args.outcomes.now c.loop-outcome.outcome-index
    c.args.all.now c.loop-outcome.all (omega (arith, c.loop-outcome-test.false)) c.loop-outcome.invariant
