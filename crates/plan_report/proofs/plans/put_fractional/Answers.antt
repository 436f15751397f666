use Rattle.text_kit.proofs.Lemmas.{on_ok, adds_then}
use Rattle.plan_report.proofs.plans.put_fractional.Goals as goal

pub returns : goal.returns
returns c = on_ok _ (λ q. adds_then c.in_ok-put_number.ensures (adds_then (rw c.items.ensures at c.in_ok-put_counts.ensures) q)) (rw c.items-2.ensures at c.put_routings.ensures)
