use Rattle.plan_terms.specs.Terms.{case_of}
use Rattle.able_counts.specs.AbleTests.{AreKeptOrWithin, IsTestOf}
use Rattle.able_counts.proofs.able_test.AbleTest.quick_stop.Given as goal

-- the states so far are routed within the capacities, or as before
abbrev pub invariant-loop-places : goal.invariant-loop-places
invariant-loop-places l = record {
  sound : IsTestOf (case_of l.instance) l.self;
  kept : AreKeptOrWithin (case_of l.instance) l.caps.nums l.fn.self.routings l.self.routings;
}
