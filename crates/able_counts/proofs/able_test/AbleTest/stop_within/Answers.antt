use Rattle.std.proofs.Common.{List, subst}
use Rattle.plan_terms.specs.Terms.{Routing, case_of}
use Rattle.able_counts.{specs.AbleTests.AreKeptOrWithin, proofs.Testing.kept_both}
use Rattle.able_counts.proofs.able_test.AbleTest.stop_within.Goals as goal

pub returns-clause-kept : goal.returns-clause-kept
returns-clause-kept c =
    let p = case_of c.args.instance.now in
    let nums = c.args.caps.now.nums in
    kept_both p nums c.args.self.now.routings c.quick_stop.new.self.routings c.stop_in_turn.new.self.routings
    (subst (λ (rs : List Routing). AreKeptOrWithin p nums rs c.quick_stop.new.self.routings) c.in_ok-stop.ensures.routings c.in_ok-stop-2.ensures.kept)
    c.stop_in_turn.ensures.kept
