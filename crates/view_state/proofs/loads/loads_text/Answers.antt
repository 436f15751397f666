use Rattle.std.proofs.Common.{◌≤◌, All, length, subst, sym, ◌∙◌}
use Rattle.view_state.proofs.Few.{loads_fit}
use Rattle.view_state.proofs.loads.loads_text.Goals as goal

pub load_lines-requires : goal.load_lines-requires
load_lines-requires c = subst (All (λ row. length row ≤ 5)) (sym (c.items.ensures ∙ c.in_ok-all.ensures)) (loads_fit c.args.net.now.places c.args.net.now.nodes c.args.net.now.links c.args.rows.now)
