use Rattle.std.proofs.Common.{◌++◌, codes, flat_map}
use Rattle.text_kit.proofs.Lemmas.{on_ok}
use Rattle.view_cells.proofs.Lemmas.{appended, appended_three}
use Rattle.view_svg.specs.Pictures.{drawn_dot, drawn_names}
use Rattle.view_svg.proofs.nodes.put_nodes.Goals as goal

pub returns : goal.returns
returns c =
    let a = c.args in
    let dots = flat_map drawn_dot a.spots.now in
    let opening = codes "<g class=\"n\" transform=\"translate(80 -70)\">\n" in
    let names = drawn_names a.nodes.now a.spots.now in
    on_ok c.append-2.result (λ q.
    appended a.text.now (dots ++ opening ++ names) (codes "</g>\n") c.put_names.new.text c.append-2.new.self
    (appended_three a.text.now dots opening names c.put_dots.new.text c.append.new.self c.put_names.new.text
    c.in_ok-put_dots.ensures c.in_ok-append.ensures.ok c.in_ok-put_names.ensures) q) c.append-2.ensures.ok
