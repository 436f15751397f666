use Rattle.text_kit.proofs.Lemmas.{on_ok, adds_then}
use Rattle.plan_report.proofs.plans.put_costs.Goals as goal

pub returns : goal.returns
returns c = on_ok _ (λ q. adds_then c.in_ok-put_sum.ensures (adds_then c.in_ok-put_sum-2.ensures (adds_then c.in_ok-put_keyword.ensures (adds_then c.in_ok-put_whole.ensures q)))) c.put_whole-2.ensures
