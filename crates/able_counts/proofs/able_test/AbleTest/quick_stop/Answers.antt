use Rattle.plan_terms.specs.Terms.{case_of}
use Rattle.able_counts.proofs.Testing.{kept_both}
use Rattle.able_counts.proofs.able_test.AbleTest.quick_stop.Goals as goal

pub returns-in_err-stop-clause-kept : goal.returns-in_err-stop-clause-kept
returns-in_err-stop-clause-kept c =
    kept_both (case_of c.args.instance.now) c.args.caps.now.nums c.args.self.now.routings c.loop-places.self.routings c.quick_stop_in.new.self.routings c.loop-places.invariant.kept c.in_err-stop.ensures.kept

pub returns-in-Some-clause-kept : goal.returns-in-Some-clause-kept
returns-in-Some-clause-kept c =
    kept_both (case_of c.args.instance.now) c.args.caps.now.nums c.args.self.now.routings c.loop-places.self.routings c.quick_stop_in.new.self.routings c.loop-places.invariant.kept c.in_ok-stop.ensures.kept

pub loop-places-preserved : goal.loop-places-preserved
loop-places-preserved c = record {
  sound = c.in_ok-stop.ensures.sound;
  kept = kept_both (case_of c.args.instance.now) c.args.caps.now.nums c.args.self.now.routings c.loop-places.self.routings c.quick_stop_in.new.self.routings c.loop-places.invariant.kept c.in_ok-stop.ensures.kept;
}
