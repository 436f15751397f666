use Rattle.std.proofs.Common.{◌++◌, List, ℕ, ap, ◌∙◌}
use Rattle.text_kit.proofs.Lemmas.{on_ok}
use Rattle.plan_view.specs.Terms.{problem_case}
use Rattle.view_csv.{specs.CommaSeparated.csv_text, proofs.PlanRows.sheet_of}
use Rattle.view_csv.proofs.outcomes.put_sheet.Goals as goal

pub returns : goal.returns
returns c = on_ok c.put_csv.result (λ q. sheet_of c.args.sheet (problem_case c.args.problem.now) c.args.outcomes.now c.in_ok-rows.rows
    c.args.text.now c.put_csv.new.text c.in_ok-rows.ensures
    (q ∙ ap (λ (rows : List (List (List ℕ))). c.args.text.now ++ csv_text rows) c.items.ensures)) c.put_csv.ensures
