use Rattle.std.proofs.Common.{arith, length, zip}
use Rattle.net_core.proofs.Library.{range_with_len}
use Rattle.report_comments.proofs.Lines.{line_next, lines_all, no_lines}
use Rattle.tree_lines.{specs.TreeLines.box_cut_items, proofs.Numbered.{placed_at, placed_length}}
use Rattle.tree_lines.proofs.cuts.put_cuts.Goals as goal

pub loop-i-init : goal.loop-i-init
loop-i-init c = no_lines c.args.text.now

pub loop-i-preserved : goal.loop-i-preserved
loop-i-preserved c =
    let cuts = c.args.cuts.now in
    let i = c.loop-i.i in
    let cut = c.index-cuts-i.result in
    line_next box_cut_items (zip (range_with_len 0 (length cuts)) cuts) i (i, cut) (omega (arith, c.loop-i-test.true, placed_length cuts))
    (placed_at cuts i cut c.loop-i-test.true c.index-cuts-i.is) c.loop-i.invariant c.in_ok-put_cut.ensures

pub returns : goal.returns
returns c =
    let cuts = c.args.cuts.now in
    lines_all box_cut_items (zip (range_with_len 0 (length cuts)) cuts) c.loop-i.i (omega (arith, c.loop-i-test.false, placed_length cuts)) c.loop-i.invariant
