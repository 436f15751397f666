use Rattle.std.proofs.Common.{OnOk, subst}
use Rattle.text_kit.specs.Terms.{AddsText}
use Rattle.view_text.specs.OutcomeCells.{HasOutcomes}
use Rattle.view_text.proofs.view.put_table.Goals as goal

pub returns : goal.returns
returns c = subst (λ places. OnOk c.put_outcomes.result (AddsText (HasOutcomes places c.args.outcomes.now) c.args.text.now c.put_outcomes.new.text))
    c.places.ensures c.put_outcomes.ensures
