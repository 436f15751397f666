use Rattle.std.proofs.Common.{◌++◌, codes}
use Rattle.text_kit.proofs.Lemmas.{on_ok}
use Rattle.view_cells.proofs.Lemmas.{appended, appended_three}
use Rattle.view_svg.{specs.Markup.escaped, specs.Pictures.spot_attributes}
use Rattle.view_svg.proofs.nodes.put_label.Goals as goal

pub returns : goal.returns
returns c = on_ok c.append-2.result (λ q.
    appended c.args.text.now (codes "<text" ++ spot_attributes c.args.spot ++ escaped c.args.name.now) (codes "</text>\n")
    c.put_escaped.new.text c.append-2.new.self
    (appended_three c.args.text.now (codes "<text") (spot_attributes c.args.spot) (escaped c.args.name.now)
    c.append.new.self c.put_spot.new.text c.put_escaped.new.text c.in_ok-append.ensures.ok c.in_ok-put_spot.ensures c.in_ok-put_escaped.ensures) q)
    c.append-2.ensures.ok
