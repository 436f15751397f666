use Rattle.text_kit.proofs.Lemmas.{on_ok}
use Rattle.report_comments.proofs.Spacing.{spaced_then}
use Rattle.report_comments.proofs.evidence.put_evidence.Goals as goal

pub returns : goal.returns
returns c = rw c.in-Route.is (on_ok _ (λ q. spaced_then (spaced_then (spaced_then c.in_ok-put_field-in-Route.ensures c.in_ok-put_caps-in-Route.ensures) (rw c.items.ensures at c.in_ok-put_basis-in-Route.ensures)) q) c.put_kind.ensures)
