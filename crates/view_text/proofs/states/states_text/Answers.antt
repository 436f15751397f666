use Rattle.std.proofs.Common.{◌≤◌, All, length, subst, sym, ◌∙◌}
use Rattle.plan_report.specs.Terms.{known_of}
use Rattle.view_text.proofs.Few.{states_fit}
use Rattle.view_text.proofs.states.states_text.Goals as goal

pub below_heads-requires-clause-few : goal.below_heads-requires-clause-few
below_heads-requires-clause-few c =
    subst (All (λ row. length row ≤ 6)) (sym (c.items-2.ensures ∙ c.in_ok-all.ensures)) (states_fit (known_of c.args.net.now c.args.states.now) c.args.rows.now)
