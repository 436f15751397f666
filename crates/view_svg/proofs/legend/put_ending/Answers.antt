use Rattle.std.proofs.Common.{◌++◌, [], codes, cond, not}
use Rattle.text_kit.proofs.Lemmas.{on_ok}
use Rattle.view_cells.proofs.Lemmas.{appended, appended_three}
use Rattle.view_svg.specs.Pictures.{circle_text, key_text, out_text}
use Rattle.view_svg.proofs.legend.put_ending.Goals as goal

pub returns : goal.returns
returns c = on_ok c.append-2.result (λ q.
    appended c.args.text.now (key_text ++ cond c.args.fails out_text [] ++ cond (not c.args.is_map) circle_text []) (codes "</svg>\n")
    c.put_note-2.new.text c.append-2.new.self
    (appended_three c.args.text.now key_text (cond c.args.fails out_text []) (cond (not c.args.is_map) circle_text [])
    c.append.new.self c.put_note.new.text c.put_note-2.new.text c.in_ok-append.ensures.ok c.in_ok-put_note.ensures c.in_ok-put_note-2.ensures) q)
    c.append-2.ensures.ok
