use Rattle.std.proofs.Common.{List, [], ◌∷◌, ◌++◌, ap, map, subst, ◌∙◌}
use Rattle.text_kit.proofs.Lemmas.{on_ok}
use Rattle.plan_report.specs.Terms.{known_of}
use Rattle.plan_view.{specs.declared.rows.LinkRow.LinkRow, specs.declared.rows.StateRow.StateRow}
use Rattle.view_cells.specs.Terms.{HasRows, HasRowsAbove}
use Rattle.view_text.{specs.CostCells.cost_rows, specs.LinkCells.{cells_of_link, link_heads, total_cells}, specs.PlanViews.accepted_text, specs.StateCells.{state_cells, state_heads}, proofs.Plans.rows_shown}
use Rattle.view_text.proofs.plan.put_rows.Goals as goal

pub returns : goal.returns
returns c =
    let known = known_of c.args.instance.now.net.now c.args.instance.now.states.now in
    let numbers = c.args.numbers.now in
    on_ok c.put_accepted.result (λ q.
    rows_shown known c.args.quality.now c.args.proof numbers.links numbers.states numbers.whole c.args.text.now c.in_ok-costs.costs c.in_ok-links.links
    c.in_ok-below.below c.put_part.new.text c.put_part-2.new.text c.put_part-3.new.text c.put_accepted.new.text
    (subst (λ places. HasRows (cost_rows places numbers.whole c.args.quality.now c.args.proof) c.in_ok-costs.costs) c.places.ensures c.in_ok-costs.ensures)
    (subst (λ (rows : List LinkRow). HasRowsAbove (link_heads ∷ map (cells_of_link known) rows)
    (total_cells known.places numbers.whole ∷ []) c.in_ok-links.links)
    c.items.ensures c.in_ok-links.ensures)
    (subst (λ (rows : List StateRow). HasRowsAbove (state_heads ∷ []) (map (state_cells known) rows) c.in_ok-below.below)
    c.items-2.ensures c.in_ok-below.ensures)
    c.in_ok-put_part.ensures c.in_ok-put_part-2.ensures c.in_ok-put_part-3.ensures
    (q ∙ ap (λ places. c.put_part-3.new.text ++ accepted_text places numbers.whole c.args.proof) c.places-2.ensures)) c.put_accepted.ensures
