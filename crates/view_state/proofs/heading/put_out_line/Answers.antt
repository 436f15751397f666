use Rattle.std.proofs.Common.{codes}
use Rattle.text_kit.proofs.Lemmas.{on_ok}
use Rattle.view_cells.proofs.Lemmas.{appended_three}
use Rattle.view_state.specs.StateHeadings.{out_words}
use Rattle.view_state.proofs.heading.put_out_line.Goals as goal

pub returns : goal.returns
returns c = on_ok c.append-2.result (λ q.
    appended_three c.args.text.now (codes "   links out:") (out_words c.args.links.now c.args.failed.now) (codes "\n")
    c.append.new.self c.put_out_words.new.text c.append-2.new.self c.in_ok-append.ensures.ok c.in_ok-put_out_words.ensures q) c.append-2.ensures.ok
