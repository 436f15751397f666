use Rattle.std.proofs.Common.{take}
use Rattle.plan_terms.specs.Terms.{case_of}
use Rattle.report_checker.proofs.Walking.{passed_more, room}
use Rattle.report_checker.proofs.outcomes_along.check_along.Goals as goal

pub pass-requires-clause-few : goal.pass-requires-clause-few
pass-requires-clause-few c =
    room (case_of c.args.instance.now) c.args.report.now.entries c.loop-k.k c.loop-k.walk (rw c.items-entries.ensures at c.loop-k-test.true) c.requires.few_entries c.loop-k.invariant.passed

pub loop-k-preserved : goal.loop-k-preserved
loop-k-preserved c =
    let p = case_of c.args.instance.now in
    let es = c.args.report.now.entries in
    record {
      passed =
          passed_more p es c.loop-k.k c.index-entries-k.result _ _ (rw c.items-entries.ensures at c.loop-k-test.true) (rw c.items-entries.ensures at c.index-entries-k.is)
          (c.in_ok-pass.ensures p (take c.loop-k.k es) c.loop-k.invariant.passed);
      checked = c.in_ok-checked.ensures;
    }
