use Rattle.std.proofs.Common.{List, ◌∷◌, ◌++◌, ap, map, subst, ◌∙◌}
use Rattle.plan_terms.specs.Terms.{Demand, case_of}
use Rattle.text_kit.proofs.Lemmas.{on_ok}
use Rattle.view_cells.specs.Terms.{HasRows}
use Rattle.view_state.{specs.StateTables.{path_cells, path_heads}, proofs.StateRows.rows_shown}
use Rattle.view_state.proofs.tables.put_rows.Goals as goal

pub returns : goal.returns
returns c =
    let p = case_of c.args.instance.now in
    on_ok c.append-3.result (λ q. rows_shown p c.args.loads.now c.args.flows.now c.args.text.now c.in_ok-above.above c.in_ok-below.below
    c.append.new.self c.append-2.new.self c.append-3.new.self
    c.in_ok-above.ensures
    (subst (λ (demands : List Demand). HasRows (path_heads ∷ map (path_cells p.places p.nodes demands) c.args.flows.now) c.in_ok-below.below)
    c.items.ensures c.in_ok-below.ensures)
    (c.in_ok-append.ensures.ok ∙ ap (λ b. c.args.text.now ++ b) c.items-2.ensures)
    c.in_ok-append-2.ensures.ok
    (q ∙ ap (λ b. c.append-2.new.self ++ b) c.items-3.ensures)) c.append-3.ensures.ok
