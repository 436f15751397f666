use Rattle.std.proofs.Common.{◌+◌, length, refl}
use Rattle.plan_terms.specs.Terms.{case_of}
use Rattle.text_kit.proofs.Lemmas.{on_ok}
use Rattle.view_csv.specs.Sheets.{flows_of_states}
use Rattle.view_csv.proofs.outcomes.put_flow_rows.Goals as goal

pub returns : goal.returns
returns c = on_ok c.put_flows.result (λ q. (
  flows_of_states (case_of c.args.instance.now) c.args.number.caller c.args.number.serial c.args.plan.now (length c.args.instance.now.states.now.listed + 1),
  refl,
  q,
)) c.put_flows.ensures
