use Rattle.std.proofs.Common.{◌∷◌, take, flat_map}
use Rattle.text_kit.specs.Terms.{Opening, AddsItems}
use Rattle.plan_report.{specs.Items.outcome_items, specs.inner.Naming.known_in}
use Rattle.plan_report.proofs.outcomes.put_outcomes.Given as goal

abbrev pub invariant-loop-outcome : goal.invariant-loop-outcome
invariant-loop-outcome l = AddsItems l.fn.text (Opening ∷ flat_map (outcome_items (known_in l.names)) (take l.outcome-index l.outcomes)) l.text
