use Rattle.plan_terms.specs.Terms.{case_of}
use Rattle.plan_swaps.specs.inner.Searching.{AreAskedCounts}
use Rattle.plan_swaps.proofs.spared_modules.take_all_off.Given as goal

-- the counts may be asked about
abbrev pub invariant-loop : goal.invariant-loop
invariant-loop l = record { asked : AreAskedCounts (case_of l.instance) l.search l.counts }
