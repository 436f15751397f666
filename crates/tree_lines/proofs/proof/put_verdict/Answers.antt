use Rattle.text_kit.proofs.Lemmas.{on_ok}
use Rattle.report_comments.proofs.Lines.{line_put}
use Rattle.tree_lines.specs.TreeLines.{verdict_items}
use Rattle.tree_lines.proofs.proof.put_verdict.Goals as goal

pub returns : goal.returns
returns c = on_ok _ (λ ended. line_put _ _ _ _ (verdict_items c.args.places c.args.verdict.now) c.in_ok-append.ensures.ok c.in_ok-put_words.ensures ended) c.append-2.ensures.ok
