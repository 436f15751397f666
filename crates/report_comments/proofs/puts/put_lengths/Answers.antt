use Rattle.std.proofs.Common.{◌∷◌, [], arith}
use Rattle.text_kit.specs.Terms.{Whole}
use Rattle.report_comments.proofs.Spacing.{spaced_all, spaced_more, spaced_none}
use Rattle.report_comments.proofs.puts.put_lengths.Goals as goal

pub loop-n-init : goal.loop-n-init
loop-n-init c = spaced_none c.args.text.now

pub loop-n-preserved : goal.loop-n-preserved
loop-n-preserved c = spaced_more [] (λ n. Whole n ∷ []) c.args.lengths.now c.loop-n.n-index 0 c.loop-n-test.true c.loop-n.invariant c.in_ok-put_whole.ensures

pub returns : goal.returns
returns c = spaced_all [] (λ n. Whole n ∷ []) c.args.lengths.now c.loop-n.n-index (omega (arith, c.loop-n-test.false)) c.loop-n.invariant
