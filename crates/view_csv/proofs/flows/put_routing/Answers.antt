use Rattle.std.proofs.Common.{◌++◌, List, ap, map, ℕ, ◌∙◌}
use Rattle.plan_view.specs.declared.link_flows.FlowRow.{FlowRow}
use Rattle.plan_report.specs.Terms.{known_to}
use Rattle.plan_terms.specs.Terms.{case_of}
use Rattle.text_kit.proofs.Lemmas.{on_ok}
use Rattle.view_csv.specs.Fields.{flow_fields, with_plan}
use Rattle.view_csv.proofs.flows.put_routing.Goals as goal

pub returns : goal.returns
returns c =
    let p = case_of c.args.instance.now in
    let fields : FlowRow → List (List ℕ) = λ row. with_plan c.args.number.caller c.args.number.serial (flow_fields (known_to p) p.demands c.args.state row) in
    on_ok c.put_rows.result (λ q. q ∙ ap (λ (rows : List FlowRow). c.args.all.now ++ map fields rows) (c.items.ensures ∙ c.in_ok-rows.ensures))
    c.put_rows.ensures
