use Rattle.text_kit.proofs.Lemmas.{on_ok}
use Rattle.report_comments.proofs.Lines.{line_put}
use Rattle.tree_lines.specs.TreeLines.{box_cut_items}
use Rattle.tree_lines.proofs.cuts.put_cut.Goals as goal

pub returns : goal.returns
returns c = on_ok _ (λ ended. line_put _ _ _ _ (box_cut_items (c.args.index, c.args.cut.now)) c.in_ok-append.ensures.ok c.in_ok-put_words.ensures ended) c.append-2.ensures.ok
