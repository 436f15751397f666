use Rattle.std.proofs.Common.{sym, ◌∙◌}
use Rattle.line_check.proofs.DividedCoefs.{number_at}
use Rattle.line_maker.proofs.SummedLines.{narrow_more}
use Rattle.line_maker.proofs.sums.is_narrow.Goals as goal

pub loop-e-preserved : goal.loop-e-preserved
loop-e-preserved c =
    let links = c.args.links.now in
    let same = c.len.ensures ∙ sym (number_at links c.loop-e.e c.index-links-e.result c.loop-e-test.true) in
    narrow_more links c.args.tested.now c.args.terms.now c.loop-e.e c.len.result same c.loop-e.invariant
    (c.is_narrow_link.ensures c.if-not-is_narrow_link.false)
