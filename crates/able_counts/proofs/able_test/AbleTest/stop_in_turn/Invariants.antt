use Rattle.std.proofs.Common.{◌≡◌, IfSome, None}
use Rattle.plan_terms.specs.Terms.{case_of}
use Rattle.able_counts.{specs.AbleTests.{AreKeptOrWithin, IsStopAt, IsTestOf}, proofs.Testing.AreWithinBelow}
use Rattle.able_counts.proofs.able_test.AbleTest.stop_in_turn.Given as goal

-- without evidence the states so far are routed within the capacities
abbrev pub invariant-loop-s : goal.invariant-loop-s
invariant-loop-s l = record {
  sound : IsTestOf (case_of l.instance) l.self;
  kept : AreKeptOrWithin (case_of l.instance) l.caps.nums l.fn.self.routings l.self.routings;
  carried : l.wide ≡ None → AreWithinBelow (case_of l.instance) l.caps.nums l.s l.self.routings;
  stop : IfSome l.wide (IsStopAt (case_of l.instance) l.caps);
}
