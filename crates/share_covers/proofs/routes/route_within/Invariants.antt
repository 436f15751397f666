use Rattle.plan_terms.specs.Terms.{case_of}
use Rattle.share_covers.proofs.StateRoutes.{AreRoutedTo}
use Rattle.share_covers.proofs.routes.route_within.Given as goal

-- the states so far are routed
abbrev pub invariant-loop-s : goal.invariant-loop-s
invariant-loop-s l = AreRoutedTo (case_of l.instance) l.caps l.s l.routings
