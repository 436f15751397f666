use Rattle.std.proofs.Common.{◌+◌, arith, length, zip}
use Rattle.net_core.proofs.Library.{range_with_len}
use Rattle.report_comments.proofs.Lines.{line_next, lines_all, no_lines}
use Rattle.tree_lines.{specs.TreeLines.line_items, proofs.Numbered.{placed_from, placed_from_length}}
use Rattle.tree_lines.proofs.lines.put_lines.Goals as goal

pub loop-i-init : goal.loop-i-init
loop-i-init c = no_lines c.args.text.now

pub loop-i-preserved : goal.loop-i-preserved
loop-i-preserved c =
    let lines = c.args.lines.now in
    let first = c.args.first in
    let i = c.loop-i.i in
    let line = c.index-lines-i.result in
    line_next line_items (zip (range_with_len first (length lines)) lines) i (first + i, line) (omega (arith, c.loop-i-test.true, placed_from_length first lines))
    (placed_from first lines i line c.loop-i-test.true c.index-lines-i.is) c.loop-i.invariant c.in_ok-put_line.ensures

pub returns : goal.returns
returns c =
    let lines = c.args.lines.now in
    lines_all line_items (zip (range_with_len c.args.first (length lines)) lines) c.loop-i.i (omega (arith, c.loop-i-test.false, placed_from_length c.args.first lines)) c.loop-i.invariant
