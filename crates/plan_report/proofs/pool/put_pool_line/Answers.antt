use Rattle.text_kit.proofs.Lemmas.{on_ok, adds_enclosed, adds_then}
use Rattle.plan_report.proofs.pool.put_pool_line.Goals as goal

pub returns : goal.returns
returns c = on_ok _ (λ q. adds_enclosed c.in_ok-put_open.ensures (adds_then c.in_ok-put_number.ensures (adds_then c.in_ok-put_field.ensures (adds_then c.in_ok-put_keyword.ensures (adds_then c.in_ok-put_whole.ensures (rw c.items.ensures at c.in_ok-put_lengths.ensures))))) q) c.put_close.ensures
