use Rattle.std.proofs.Common.{◌+◌, inr, List, ◌++◌, map, subst, sym, take}
use Rattle.plan_terms.specs.Terms.{case_of}
use Rattle.line_check.{specs.Testing.{AreTested, IsTestedAs}, specs.declared.line.Line.Line, specs.declared.tested_lines.Tested.Tested, proofs.TestedMore.line_more}
use Rattle.line_check.proofs.tested_lines.add_lines.Goals as goal

pub loop-line-preserved : goal.loop-line-preserved
loop-line-preserved c =
    let p = case_of c.args.instance.now in
    let lines = c.args.lines.now in
    let i = c.loop-line.line-index in
    let earlier = c.loop-line.tested in
    let t = c.in_ok-test.test in
    let own = subst (λ (ts : List Tested). IsTestedAs p ts (inr c.line-item.result) t) c.items.ensures c.in_ok-test.ensures in
    let told = subst (λ (x : Line). IsTestedAs p earlier (inr x) t) c.line-item.is own in
    λ first before. subst (λ (tested : List Tested). AreTested p (first ++ map inr (take (i + 1) lines)) tested) (sym c.in_ok-push.ensures.ok)
    (line_more p first lines earlier i c.line-item.result t c.loop-line-test.true (c.loop-line.invariant first before) told)
