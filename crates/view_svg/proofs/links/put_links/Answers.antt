use Rattle.std.proofs.Common.{◌++◌, ap, arith, ◌∙◌}
use Rattle.plan_report.specs.Terms.{known_of}
use Rattle.view_svg.{specs.Pictures.drawn_in_state, proofs.Pieces.next_piece}
use Rattle.view_svg.proofs.links.put_links.Goals as goal

pub loop-row-preserved : goal.loop-row-preserved
loop-row-preserved c =
    let a = c.args in
    let drawn = drawn_in_state (known_of a.instance.now.net.now a.instance.now.states.now) a.strokes.now a.failed.now a.changes.now in
    next_piece drawn a.rows.now c.loop-row.row-index c.row-item.result a.text.now c.loop-row.text c.put_in_state.new.text (omega arith) c.loop-row.invariant
    (c.in_ok-put_in_state.ensures ∙ ap (λ row. c.loop-row.text ++ drawn row) c.row-item.is)
