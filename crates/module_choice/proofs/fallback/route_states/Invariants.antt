use Rattle.plan_terms.specs.Terms.{case_of}
use Rattle.module_choice.specs.inner.Routes.{AreRouted}
use Rattle.module_choice.proofs.fallback.route_states.Given as goal

-- the states so far are routed
abbrev pub invariant-loop : goal.invariant-loop
invariant-loop l = AreRouted (case_of l.instance) l.lengths l.counter l.routings l.peaks
