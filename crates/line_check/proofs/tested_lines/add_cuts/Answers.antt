use Rattle.std.proofs.Common.{◌+◌, inl, List, map, subst, sym, take}
use Rattle.plan_terms.specs.Terms.{CutLine, case_of}
use Rattle.line_check.{specs.Testing.{AreTested, IsTestedAs}, specs.declared.tested_lines.Tested.Tested, proofs.TestedMore.cut_more}
use Rattle.line_check.proofs.tested_lines.add_cuts.Goals as goal

pub loop-cut-preserved : goal.loop-cut-preserved
loop-cut-preserved c =
    let p = case_of c.args.instance.now in
    let cuts = c.args.cuts.now in
    let i = c.loop-cut.cut-index in
    let earlier = c.loop-cut.tested in
    let t = c.in_ok-test.test in
    let told = subst (λ (x : CutLine). IsTestedAs p earlier (inl x) t) c.cut-item.is (c.in_ok-test.ensures earlier) in
    subst (λ (tested : List Tested). AreTested p (map inl (take (i + 1) cuts)) tested) (sym c.in_ok-push.ensures.ok)
    (cut_more p cuts earlier i c.cut-item.result t c.loop-cut-test.true c.loop-cut.invariant told)
