use Rattle.plan_terms.specs.Terms.{graph_of}
use Rattle.key_paths.specs.inner.Gaining.{AreOffers}
use Rattle.key_paths.proofs.path_offers.offers_of.Given as goal

-- the offers of the demands so far
abbrev pub invariant-loop-k : goal.invariant-loop-k
invariant-loop-k l = AreOffers (graph_of l.task.graph) l.task.demands.now l.keyed l.k l.found
