use Rattle.std.proofs.lemmas.Slice.Zip.{AllZip-long}
use Rattle.text_kit.proofs.Lemmas.{on_ok, adds_then}
use Rattle.plan_report.proofs.Forms.{writable_demands}
use Rattle.plan_report.proofs.plans.put_plan.Goals as goal

pub put_demands-requires : goal.put_demands-requires
put_demands-requires c = rw c.items-demands.ensures (writable_demands c.args.names.now.nodes.now c.args.plan.now.demands c.requires.demands)

pub put_modules-requires : goal.put_modules-requires
put_modules-requires c = rw c.items.ensures (AllZip-long _ c.args.names.now.links.now c.args.plan.now.counts c.requires.counts)

pub returns : goal.returns
returns c = on_ok _ (λ q. adds_then (adds_then (adds_then (adds_then (adds_then (adds_then c.in_ok-put_keyword.ensures (rw c.items-demands.ensures at c.in_ok-put_demands.ensures)) c.in_ok-put_costs.ensures) (adds_then c.in_ok-put_keyword-2.ensures (rw c.items.ensures at c.in_ok-put_modules.ensures))) c.in_ok-put_certificate.ensures) (adds_then c.in_ok-put_keyword-3.ensures (rw (c.items-2.ensures, c.items-demands.ensures) at c.in_ok-put_routings.ensures))) q) (rw c.items-demands.ensures at c.put_quality.ensures)
