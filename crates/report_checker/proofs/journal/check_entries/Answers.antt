use Rattle.std.proofs.Common.{refl, take}
use Rattle.plan_terms.specs.Terms.{Entry, case_of}
use Rattle.plan_checker.proofs.Places.{holds_here, none_at_all, none_more}
use Rattle.report_checker.{specs.Journals.IsOtherEntry, proofs.Telling.no_entry, proofs.Walking.{passed_more, room}}
use Rattle.report_checker.proofs.journal.check_entries.Goals as goal

pub pass-requires-clause-few : goal.pass-requires-clause-few
pass-requires-clause-few c = room (case_of c.args.instance.now) c.args.entries.now c.loop-k.k c.loop-k.walk c.loop-k-test.true c.requires.few c.loop-k.invariant.passed

pub returns-then-not-branch-clause-found : goal.returns-then-not-branch-clause-found
returns-then-not-branch-clause-found c =
    let p = case_of c.args.instance.now in
    let es = c.args.entries.now in
    let k = c.loop-k.k in
    let passes = c.in_ok-pass.ensures p (take k es) c.loop-k.invariant.passed in
    (k, refl, (holds_here es (λ j (e : Entry). IsOtherEntry p (take j es) e) k c.index-entries-k.result c.loop-k-test.true c.index-entries-k.is (passes.other (λ yes. absurd cc (yes, c.if-not-branch.true))), c.loop-k.invariant.none))

pub loop-k-preserved : goal.loop-k-preserved
loop-k-preserved c =
    let p = case_of c.args.instance.now in
    let es = c.args.entries.now in
    let k = c.loop-k.k in
    let passes = c.in_ok-pass.ensures p (take k es) c.loop-k.invariant.passed in
    record {
      passed = passed_more p es k c.index-entries-k.result _ _ c.loop-k-test.true c.index-entries-k.is passes;
      none = none_more es (λ j (e : Entry). IsOtherEntry p (take j es) e) k c.index-entries-k.result c.index-entries-k.is c.loop-k.invariant.none (passes.right c.if-not-branch.false);
    }

pub returns-clause-none : goal.returns-clause-none
returns-clause-none c =
    let p = case_of c.args.instance.now in
    let es = c.args.entries.now in
    no_entry p es (none_at_all es (λ j (e : Entry). IsOtherEntry p (take j es) e) c.loop-k.k c.loop-k-test.false c.loop-k.invariant.none)
