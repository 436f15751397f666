use Rattle.std.proofs.Common.{◌≤◌, All, length, subst, sym, ◌∙◌}
use Rattle.plan_report.specs.Terms.{known_of}
use Rattle.view_text.proofs.Few.{links_fit}
use Rattle.view_text.proofs.links.links_text.Goals as goal

pub with_total-requires-clause-few : goal.with_total-requires-clause-few
with_total-requires-clause-few c =
    subst (All (λ row. length row ≤ 9)) (sym (c.items.ensures ∙ c.in_ok-all.ensures)) (links_fit (known_of c.args.net.now c.args.states.now) c.args.rows.now)
