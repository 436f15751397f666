use Rattle.std.proofs.Common.{◌∙◌, ◌+◌, subst, sym}
use Rattle.failure_texts.{specs.Fates.AreFates, proofs.FateLists.{link_at, more_told}}
use Rattle.failure_texts.proofs.fates.fates_of.Goals as goal

pub loop-e-preserved : goal.loop-e-preserved
loop-e-preserved c = subst (AreFates c.args.net.now c.args.demands.now (c.loop-e.e + 1)) (sym c.in_ok-push.ensures.ok)
    (more_told c.args.net.now c.args.demands.now c.loop-e.e c.loop-e.fates _ c.in_ok-fate.fate c.loop-e.invariant
    (link_at c.items-links.result.now c.args.net.now.links c.loop-e.e _ (c.items-links.ensures ∙ c.links.ensures) c.loop-e-test.true c.index-links-e.is) c.in_ok-fate.ensures)
