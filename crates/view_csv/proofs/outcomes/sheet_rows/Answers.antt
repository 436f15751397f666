use Rattle.std.proofs.Common.{subst}
use Rattle.plan_view.specs.Terms.{problem_case}
use Rattle.view_csv.specs.Sheets.{AddsRows, AreOutcomeRows}
use Rattle.view_csv.proofs.outcomes.sheet_rows.Goals as goal

pub returns : goal.returns
returns c = subst (λ head. AddsRows (AreOutcomeRows c.args.sheet (problem_case c.args.problem.now) c.args.outcomes.now) head c.put_each.new.all)
    c.in_ok-rows.ensures c.in_ok-put_each.ensures
