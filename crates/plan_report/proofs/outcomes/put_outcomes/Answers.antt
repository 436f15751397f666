use Rattle.std.proofs.Common.{◌∷◌, [], arith}
use Rattle.text_kit.{specs.Terms.Opening, proofs.Lemmas.{adds_list, adds_next}}
use Rattle.plan_report.{specs.Items.outcome_items, specs.inner.Naming.known_in}
use Rattle.plan_report.proofs.outcomes.put_outcomes.Goals as goal

pub loop-outcome-preserved : goal.loop-outcome-preserved
loop-outcome-preserved c = adds_next (Opening ∷ []) (outcome_items (known_in c.args.names.now)) c.args.outcomes.now c.loop-outcome.outcome-index c.outcome-item.result c.loop-outcome-test.true c.outcome-item.is c.loop-outcome.invariant c.in_ok-put_outcome.ensures

pub returns : goal.returns
returns c = adds_list (outcome_items (known_in c.args.names.now)) c.args.outcomes.now c.loop-outcome.outcome-index _ _ (omega (arith, c.loop-outcome-test.false)) c.loop-outcome.invariant c.put_close.ensures
