use Rattle.plan_terms.specs.Terms.{case_of}
use Rattle.line_check.proofs.SourcesTold.{plain_result}
use Rattle.line_check.proofs.tested_lines.tested_plain.Goals as goal

pub returns : goal.returns
returns c =
    plain_result (case_of c.args.instance.now) c.args.tested.now c.args.line c.args.weights.now c.line_in-over.result.now c.in_ok-made.made c.is_robust-robust.result c.told.result
    (c.is_sound.ensures.0 c.if-not-is_sound.false) c.line_in-over.ensures c.in_ok-made.ensures c.is_robust-robust.ensures c.told.ensures
