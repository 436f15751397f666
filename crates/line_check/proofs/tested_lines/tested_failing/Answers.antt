use Rattle.plan_terms.specs.Terms.{case_of}
use Rattle.line_check.proofs.SourcesTold.{failing_result}
use Rattle.line_check.proofs.tested_lines.tested_failing.Goals as goal

pub returns : goal.returns
returns c =
    failing_result (case_of c.args.instance.now) c.args.tested.now c.args.line c.args.weights.now c.line_in-over.result.now c.in_ok-made.made c.told.result
    (c.is_robust.ensures.0 c.if-not-is_robust.false) c.line_in-over.ensures c.in_ok-made.ensures c.told.ensures
