use Rattle.std.proofs.Common.{arith, ◌∙◌, sym}
use Rattle.tree_reader.proofs.Scanning.{comments_space}
use Rattle.tree_reader.proofs.lines.line_start.Goals as goal

pub loop-at-preserved : goal.loop-at-preserved
loop-at-preserved c =
    record {
      after = omega (arith, c.loop-at.invariant.after);
      within = omega arith;
      same = c.loop-at.invariant.same ∙ comments_space c.loop-at.at c.args.bytes.now c.loop-at-test.true (sym c.is_space.ensures ∙ c.if-is_space.true);
    }
