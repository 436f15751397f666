use Rattle.text_kit.proofs.Lemmas.{on_ok, adds_enclosed, adds_then}
use Rattle.plan_report.proofs.writer.put_report.Goals as goal

pub put_journal-requires : goal.put_journal-requires
put_journal-requires c = (c.args.report.now.pool, rw c.items.ensures c.requires.entries)

pub put_outcomes-requires : goal.put_outcomes-requires
put_outcomes-requires c = (c.args.report.now.pool, rw c.items-3.ensures c.requires.outcomes)

pub returns : goal.returns
returns c = on_ok _ (λ q. adds_then (adds_then (adds_then (adds_then c.in_ok-put_keyword.ensures (adds_enclosed c.in_ok-put_open.ensures c.in_ok-put_notes.ensures c.in_ok-put_close.ensures)) (adds_then c.in_ok-put_keyword-2.ensures (rw c.items.ensures at c.in_ok-put_journal.ensures))) (adds_then c.in_ok-put_keyword-3.ensures (rw c.items-2.ensures at c.in_ok-put_pool.ensures))) (adds_then c.in_ok-put_keyword-4.ensures q)) (rw c.items-3.ensures at c.put_outcomes.ensures)
