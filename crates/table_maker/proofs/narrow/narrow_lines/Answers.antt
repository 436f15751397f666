use Rattle.std.proofs.Common.{arith}
use Rattle.plan_terms.specs.Terms.{case_of}
use Rattle.table_maker.proofs.WideLines.{over_more}
use Rattle.table_maker.proofs.narrow.narrow_lines.Goals as goal

pub loop-i-preserved : goal.loop-i-preserved
loop-i-preserved c = record {
  narrow = c.in_ok-add_narrow.ensures.lines;
  few = omega (arith, c.in_ok-add_narrow.ensures.count, c.loop-i.invariant.few);
  all = over_more (case_of c.args.instance.now).links c.args.tested.now c.loop-i.lines _ c.loop-i.i c.in_ok-add_narrow.ensures.kept c.in_ok-add_narrow.ensures.new c.loop-i.invariant.all;
}
