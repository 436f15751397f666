use Rattle.plan_terms.specs.Terms.{case_of}
use Rattle.plan_swaps.specs.inner.Searching.{AreAskedCounts}
use Rattle.plan_swaps.proofs.spared_modules.spare_others.Given as goal

-- the counts may be asked about
abbrev pub invariant-loop-priced : goal.invariant-loop-priced
invariant-loop-priced l = record { asked : AreAskedCounts (case_of l.instance) l.search l.counts }
