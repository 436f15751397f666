use Rattle.text_kit.proofs.Lemmas.{on_ok}
use Rattle.report_comments.proofs.Spacing.{spaced_then}
use Rattle.failure_texts.proofs.comments.put_words.Goals as goal

pub returns : goal.returns
returns c = on_ok _ (λ q. spaced_then c.in_ok-put_link_name.ensures (spaced_then c.in_ok-put_demand.ensures q)) c.put_word.ensures
