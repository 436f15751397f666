use Rattle.std.proofs.Common.{arith}
use Rattle.plan_view.specs.Terms.{problem_case}
use Rattle.view_state.proofs.StateTexts.{all_texts, next_texts, no_texts}
use Rattle.view_state.proofs.outcomes.put_each.Goals as goal

pub loop-outcome-init : goal.loop-outcome-init
loop-outcome-init c = no_texts (problem_case c.args.problem.now) c.args.state c.args.text.now

pub loop-outcome-preserved : goal.loop-outcome-preserved
loop-outcome-preserved c = next_texts (problem_case c.args.problem.now) c.args.state c.args.outcomes.now c.loop-outcome.outcome-index c.outcome-item.result
    c.args.text.now c.loop-outcome.text c.put_outcome.new.text
    c.loop-outcome-test.true c.outcome-item.is c.loop-outcome.invariant c.in_ok-put_outcome.ensures

pub returns : goal.returns
returns c = all_texts (problem_case c.args.problem.now) c.args.state c.args.outcomes.now c.loop-outcome.outcome-index
    c.args.text.now c.loop-outcome.text (omega (arith, c.loop-outcome-test.false)) c.loop-outcome.invariant
