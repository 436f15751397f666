use Rattle.text_kit.proofs.Lemmas.{on_ok, adds_enclosed, adds_then}
use Rattle.plan_report.proofs.certificates.put_certificate.Goals as goal

pub returns : goal.returns
returns c = on_ok _ (λ q. adds_then c.in_ok-put_keyword.ensures (adds_enclosed c.in_ok-put_open.ensures (adds_then c.in_ok-put_whole.ensures (rw c.items.ensures at c.in_ok-put_certificate_lines.ensures)) q)) c.put_close.ensures
