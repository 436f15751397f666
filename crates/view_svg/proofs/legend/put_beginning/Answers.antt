use Rattle.std.proofs.Common.{◌++◌, codes}
use Rattle.text_kit.proofs.Lemmas.{on_ok}
use Rattle.view_cells.proofs.Lemmas.{appended, appended_five}
use Rattle.view_svg.{specs.Markup.escaped, specs.Pictures.head_text}
use Rattle.view_svg.proofs.legend.put_beginning.Goals as goal

pub returns : goal.returns
returns c = on_ok c.append-4.result (λ q.
    appended c.args.text.now
    (head_text ++ codes "<text class=\"k n\" x=\"400\" y=\"280\">" ++ escaped c.args.network.now ++ codes ", state " ++ escaped c.args.state.now) (codes "</text>\n")
    c.put_escaped-2.new.text c.append-4.new.self
    (appended_five c.args.text.now head_text (codes "<text class=\"k n\" x=\"400\" y=\"280\">") (escaped c.args.network.now) (codes ", state ")
    (escaped c.args.state.now) c.append.new.self c.append-2.new.self c.put_escaped.new.text c.append-3.new.self c.put_escaped-2.new.text
    c.in_ok-append.ensures.ok c.in_ok-append-2.ensures.ok c.in_ok-put_escaped.ensures c.in_ok-append-3.ensures.ok c.in_ok-put_escaped-2.ensures) q)
    c.append-4.ensures.ok
