use Rattle.std.proofs.Common.{codes, decimal}
use Rattle.text_kit.proofs.Lemmas.{on_ok}
use Rattle.view_cells.proofs.Lemmas.{appended_five}
use Rattle.view_svg.proofs.nodes.put_dot.Goals as goal

pub returns : goal.returns
returns c = on_ok c.append-3.result (λ q.
    appended_five c.args.text.now (codes "<circle r=\"50\" cx=\"") (decimal c.args.spot.x) (codes "\" cy=\"") (decimal c.args.spot.y) (codes "\"/>\n")
    c.append.new.self c.put_decimal.new.text c.append-2.new.self c.put_decimal-2.new.text c.append-3.new.self
    c.in_ok-append.ensures.ok c.in_ok-put_decimal.ensures c.in_ok-append-2.ensures.ok c.in_ok-put_decimal-2.ensures q)
    c.append-3.ensures.ok
