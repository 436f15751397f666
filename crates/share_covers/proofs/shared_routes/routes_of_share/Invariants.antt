use Rattle.plan_terms.specs.Terms.{case_of}
use Rattle.share_covers.{specs.InstalledRoutes.installed_caps, proofs.StateRoutes.AreRoutedTo}
use Rattle.share_covers.proofs.shared_routes.routes_of_share.Given as goal

-- the states so far are routed
abbrev pub invariant-loop-s : goal.invariant-loop-s
invariant-loop-s l = let p = case_of l.instance in AreRoutedTo p (installed_caps p.links l.counts) l.s l.routings
