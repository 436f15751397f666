use Rattle.text_kit.proofs.Lemmas.{on_ok, adds_then}
use Rattle.plan_report.proofs.outcomes.put_head.Goals as goal

pub returns : goal.returns
returns c = on_ok _ (λ q. adds_then c.in_ok-put_field.ensures (adds_then c.in_ok-put_field-2.ensures (adds_then c.in_ok-put_field-3.ensures q))) c.put_field-4.ensures
