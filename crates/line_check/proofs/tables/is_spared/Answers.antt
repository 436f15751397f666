use Rattle.std.proofs.Common.{◌∙◌}
use Rattle.plan_terms.specs.Terms.{case_of}
use Rattle.line_check.{proofs.KindsSoFar.module_number_is, proofs.TableParts.spared_more}
use Rattle.line_check.proofs.tables.is_spared.Goals as goal

pub loop-e-preserved : goal.loop-e-preserved
loop-e-preserved c =
    let links = c.items-links.result.now in
    let e = c.loop-e.e in
    let same = c.len-modules.ensures ∙ module_number_is links e c.index-links-e.result c.loop-e-test.true in
    spared_more (case_of c.args.instance.now) links c.args.over.now c.args.kind e c.len-modules.result c.is_spared_on.result same c.is_spared_on.ensures c.if-is_spared_on.false c.loop-e.invariant
