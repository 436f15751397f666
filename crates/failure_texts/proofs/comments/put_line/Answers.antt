use Rattle.text_kit.proofs.Lemmas.{on_ok}
use Rattle.report_comments.proofs.Lines.{line_put}
use Rattle.failure_texts.specs.FailureTexts.{left_out_items}
use Rattle.failure_texts.proofs.comments.put_line.Goals as goal

pub returns : goal.returns
returns c = on_ok _ (λ ended. line_put _ _ _ _ (left_out_items c.args.links.now c.args.demands.now c.args.fate c.args.k) c.in_ok-append.ensures.ok c.in_ok-put_words.ensures ended) c.append-2.ensures.ok
