use Rattle.text_kit.proofs.Lemmas.{on_ok}
use Rattle.report_comments.proofs.Spacing.{spaced_then}
use Rattle.tree_lines.proofs.nodes.put_stuck.Goals as goal

pub returns : goal.returns
returns c = on_ok _ (λ q. spaced_then c.in_ok-put_certificate.ensures (spaced_then c.in_ok-put_word.ensures q)) c.put_evidence.ensures
