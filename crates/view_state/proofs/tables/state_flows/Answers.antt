use Rattle.std.proofs.Common.{◌∙◌}
use Rattle.plan_terms.specs.Terms.{case_of}
use Rattle.view_state.proofs.StateRows.{none_flow}
use Rattle.view_state.proofs.tables.state_flows.Goals as goal

pub returns-in-None : goal.returns-in-None
returns-in-None c =
    let past = rw c.items.ensures at c.in-None.ensures.lookup in
    c.new.ensures ∙ none_flow (case_of c.args.instance.now) c.args.plan.now c.args.state past.3
