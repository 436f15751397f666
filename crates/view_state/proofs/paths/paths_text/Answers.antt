use Rattle.std.proofs.Common.{◌≤◌, All, length, subst, sym, ◌∙◌}
use Rattle.view_state.proofs.Few.{paths_fit}
use Rattle.view_state.proofs.paths.paths_text.Goals as goal

pub path_lines-requires : goal.path_lines-requires
path_lines-requires c = subst (All (λ row. length row ≤ 3)) (sym (c.items.ensures ∙ c.in_ok-all.ensures)) (paths_fit c.args.net.now.places c.args.net.now.nodes c.args.demands.now c.args.rows.now)
