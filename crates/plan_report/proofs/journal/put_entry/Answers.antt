use Rattle.text_kit.proofs.Lemmas.{on_ok, adds_enclosed, adds_then}
use Rattle.plan_report.proofs.journal.put_entry.Goals as goal

pub returns : goal.returns
returns c = on_ok _ (λ q. adds_enclosed c.in_ok-put_open.ensures (adds_then c.in_ok-put_number.ensures c.in_ok-put_event.ensures) q) c.put_close.ensures
