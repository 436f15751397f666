use Rattle.std.proofs.Common.{◌≤◌, All, length, subst, sym, ◌∙◌}
use Rattle.view_text.proofs.Few.{outcomes_fit}
use Rattle.view_text.proofs.outcomes.put_outcomes.Goals as goal

pub outcome_lines-requires : goal.outcome_lines-requires
outcome_lines-requires c = subst (All (λ row. length row ≤ 5)) (sym (c.items.ensures ∙ c.in_ok-rows.ensures)) (outcomes_fit c.args.places c.args.outcomes.now)
