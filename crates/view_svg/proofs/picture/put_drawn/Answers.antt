use Rattle.std.proofs.Common.{[], cond, flat_map, nat_lt}
use Rattle.plan_report.specs.Terms.{known_of, state_name}
use Rattle.plan_view.specs.Terms.{failed_links}
use Rattle.text_kit.proofs.Lemmas.{on_ok}
use Rattle.view_cells.proofs.Lemmas.{appended_five}
use Rattle.view_svg.specs.Pictures.{beginning, drawn_changes, drawn_in_state, drawn_nodes, ending}
use Rattle.view_svg.proofs.picture.put_drawn.Goals as goal

pub returns : goal.returns
returns c =
    let a = c.args in
    let net = a.instance.now.net.now in
    let states = a.instance.now.states.now in
    let d = a.drawing.now in
    on_ok c.put_ending.result (λ q.
    appended_five a.text.now (beginning a.network.now (state_name states.listed a.state))
    (cond (nat_lt 0 a.state) (drawn_changes d.layout.links d.changes d.rows) [])
    (flat_map (drawn_in_state (known_of net states) d.layout.links (failed_links states.listed a.state) d.changes) d.rows)
    (drawn_nodes net.nodes d.layout.nodes) (ending d.layout.is_map (nat_lt 0 a.state))
    c.put_state_beginning.new.text c.put_state_changes.new.text c.put_state_links.new.text c.put_network_nodes.new.text c.put_ending.new.text
    c.in_ok-put_state_beginning.ensures c.in_ok-put_state_changes.ensures c.in_ok-put_state_links.ensures c.in_ok-put_network_nodes.ensures q)
    c.put_ending.ensures
