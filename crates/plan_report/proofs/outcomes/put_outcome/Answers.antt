use Rattle.text_kit.proofs.Lemmas.{on_ok, adds_enclosed, adds_then}
use Rattle.plan_report.proofs.outcomes.put_outcome.Goals as goal

pub returns-in_ok-put_plan-in-Planned : goal.returns-in_ok-put_plan-in-Planned
returns-in_ok-put_plan-in-Planned c = rw c.in-Planned.is (on_ok _ (λ q. adds_then c.in_ok-put_keyword-in-Planned.ensures (adds_enclosed c.in_ok-put_open-in-Planned.ensures (adds_then c.in_ok-put_head-in-Planned.ensures c.in_ok-put_plan-in-Planned.ensures) q)) c.put_close.ensures)

pub returns-in_ok-put_separation-in-Unsurvivable : goal.returns-in_ok-put_separation-in-Unsurvivable
returns-in_ok-put_separation-in-Unsurvivable c = rw c.in-Unsurvivable.is (on_ok _ (λ q. adds_then c.in_ok-put_keyword-in-Unsurvivable.ensures (adds_enclosed c.in_ok-put_open-in-Unsurvivable.ensures (adds_then c.in_ok-put_head-in-Unsurvivable.ensures c.in_ok-put_separation-in-Unsurvivable.ensures) q)) c.put_close-in-Unsurvivable.ensures)
