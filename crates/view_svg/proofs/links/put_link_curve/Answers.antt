use Rattle.std.proofs.Common.{◌++◌, codes, decimal}
use Rattle.text_kit.proofs.Lemmas.{on_ok}
use Rattle.view_cells.proofs.Lemmas.{appended_five, appended_three}
use Rattle.view_svg.specs.Pictures.{curve, link_class}
use Rattle.view_svg.proofs.links.put_link_curve.Goals as goal

pub returns : goal.returns
returns c =
    let a = c.args in
    let front = codes "<path class=\"" ++ link_class a.row.now a.out ++ codes "\" stroke-width=\"" ++ decimal a.stroke.now.width ++ codes "\" d=\"" in
    on_ok c.append-4.result (λ q.
    appended_three a.text.now front (curve a.stroke.now) (codes "\"/>") c.append-3.new.self c.put_curve.new.text c.append-4.new.self
    (appended_five a.text.now (codes "<path class=\"") (link_class a.row.now a.out) (codes "\" stroke-width=\"") (decimal a.stroke.now.width) (codes "\" d=\"")
    c.append.new.self c.put_class.new.text c.append-2.new.self c.put_decimal.new.text c.append-3.new.self
    c.in_ok-append.ensures.ok c.in_ok-put_class.ensures c.in_ok-append-2.ensures.ok c.in_ok-put_decimal.ensures c.in_ok-append-3.ensures.ok)
    c.in_ok-put_curve.ensures q) c.append-4.ensures.ok
