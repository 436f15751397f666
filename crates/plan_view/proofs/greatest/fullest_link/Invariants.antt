use Rattle.std.proofs.Common.{get_or}
use Rattle.plan_terms.specs.Terms.{load}
use Rattle.plan_view.specs.Loads.{IsFirstIfAny}
use Rattle.plan_view.proofs.greatest.fullest_link.Given as goal

-- the fullest of the links so far
abbrev pub invariant-loop-e : goal.invariant-loop-e
invariant-loop-e l = IsFirstIfAny l.e (load l.flows) (λ e. get_or l.capacities e 0) l.fullest
