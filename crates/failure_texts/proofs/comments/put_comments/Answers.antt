use Rattle.std.proofs.Common.{None, arith}
use Rattle.report_comments.proofs.Lines.{no_lines}
use Rattle.failure_texts.{specs.FailureTexts.left_out, proofs.Lines.{lines_more, lines_whole}}
use Rattle.failure_texts.proofs.comments.put_comments.Goals as goal

pub loop-fate-init : goal.loop-fate-init
loop-fate-init c = no_lines c.args.text.now

pub loop-fate-preserved : goal.loop-fate-preserved
loop-fate-preserved c = lines_more (left_out c.args.links.now c.args.demands.now) c.args.fates.now c.loop-fate.fate-index (record { link = record { 0 = 0 }; separated = None }) c.loop-fate-test.true c.loop-fate.invariant c.in_ok-put_left_out.ensures

pub returns : goal.returns
returns c = lines_whole (left_out c.args.links.now c.args.demands.now) c.args.fates.now c.loop-fate.fate-index (omega (arith, c.loop-fate-test.false)) c.loop-fate.invariant
