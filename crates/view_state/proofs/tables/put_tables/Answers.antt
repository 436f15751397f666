use Rattle.std.proofs.Common.{List, subst, ◌∙◌}
use Rattle.plan_view.{specs.declared.link_flows.FlowRow.FlowRow, specs.declared.rows.LoadRow.LoadRow}
use Rattle.plan_terms.specs.Terms.{case_of}
use Rattle.text_kit.{proofs.Lemmas.on_ok, specs.Terms.AddsText}
use Rattle.view_state.{specs.StateViews.ShowsStateRows, proofs.StateRows.tables_shown}
use Rattle.view_state.proofs.tables.put_tables.Goals as goal

pub returns : goal.returns
returns c =
    let p = case_of c.args.instance.now in
    let old = c.args.text.now in
    let new = c.put_rows.new.text in
    on_ok c.put_rows.result (λ h. tables_shown p c.args.plan.now c.args.state c.in_ok-loads.loads old new c.in_ok-loads.ensures
    (subst (λ (rows : List FlowRow). AddsText (ShowsStateRows p c.in_ok-loads.loads rows) old new) (c.items-2.ensures ∙ c.in_ok-flows.ensures)
    (subst (λ (rows : List LoadRow). AddsText (ShowsStateRows p rows c.items-2.result.now) old new) c.items.ensures h))) c.put_rows.ensures
