use Rattle.std.proofs.Common.{arith}
use Rattle.plan_terms.specs.Terms.{case_of}
use Rattle.able_counts.proofs.Testing.{kept_both, kept_none, stop_of_later, within_all, within_more, within_none}
use Rattle.able_counts.proofs.able_test.AbleTest.stop_in_turn.Goals as goal

pub loop-s-init : goal.loop-s-init
loop-s-init c = record {
  sound = c.requires.sound;
  kept = kept_none (case_of c.args.instance.now) c.args.caps.now.nums c.args.self.now.routings;
  carried = λ _. within_none (case_of c.args.instance.now) c.args.caps.now.nums c.args.self.now.routings;
  stop = tt;
}

pub loop-s-preserved : goal.loop-s-preserved
loop-s-preserved c =
    let p = case_of c.args.instance.now in
    let nums = c.args.caps.now.nums in
    let was = c.loop-s.invariant in
    let now = c.in_ok-found.ensures in
    record {
      sound = now.sound;
      kept = kept_both p nums c.args.self.now.routings c.loop-s.self.routings c.stop_in.new.self.routings was.kept now.kept;
      carried = λ none.
          let both = c.later-wide.ensures.none none in
          within_more p nums c.loop-s.s c.loop-s.self.routings c.stop_in.new.self.routings (was.carried both.0) now.kept (now.carried both.1);
      stop = stop_of_later p c.args.caps.now c.loop-s.wide c.in_ok-found.found c.later-wide.result c.later-wide.ensures.one was.stop now.stop;
    }

pub returns-in_err-found-clause-kept : goal.returns-in_err-found-clause-kept
returns-in_err-found-clause-kept c =
    kept_both (case_of c.args.instance.now) c.args.caps.now.nums c.args.self.now.routings c.loop-s.self.routings c.stop_in.new.self.routings c.loop-s.invariant.kept c.in_err-found.ensures.kept

pub returns-then-is_cut-clause-kept : goal.returns-then-is_cut-clause-kept
returns-then-is_cut-clause-kept c =
    kept_both (case_of c.args.instance.now) c.args.caps.now.nums c.args.self.now.routings c.loop-s.self.routings c.stop_in.new.self.routings c.loop-s.invariant.kept c.in_ok-found.ensures.kept

pub returns-clause-carried : goal.returns-clause-carried
returns-clause-carried c none =
    within_all (case_of c.args.instance.now) c.args.caps.now.nums c.loop-s.s c.loop-s.self.routings c.loop-s.invariant.sound.states (omega (arith, c.loop-s-test.false, c.count-s-end.ensures)) (c.loop-s.invariant.carried none)
