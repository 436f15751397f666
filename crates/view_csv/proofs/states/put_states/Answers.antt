use Rattle.std.proofs.Common.{◌++◌, ap, map, refl, ◌∙◌, ℕ, List}
use Rattle.plan_report.specs.Terms.{known_to}
use Rattle.plan_terms.specs.Terms.{case_of}
use Rattle.plan_view.specs.declared.rows.StateRow.{StateRow}
use Rattle.text_kit.proofs.Lemmas.{on_ok}
use Rattle.view_csv.specs.Fields.{state_fields, with_plan}
use Rattle.view_csv.proofs.states.put_states.Goals as goal

pub returns : goal.returns
returns c =
    let known = known_to (case_of c.args.instance.now) in
    let fields : StateRow → List (List ℕ) = λ row. with_plan c.args.number.caller c.args.number.serial (state_fields known row) in
    on_ok c.put_state_rows.result (λ q. (
      map fields c.in_ok-rows.rows,
      record { rows = c.in_ok-rows.rows; are = c.in_ok-rows.ensures; shown = refl },
      q ∙ ap (λ (rows : List StateRow). c.args.all.now ++ map fields rows) c.items.ensures,
    )) c.put_state_rows.ensures
