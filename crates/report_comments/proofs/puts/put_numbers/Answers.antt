use Rattle.std.proofs.Common.{◌∷◌, [], arith}
use Rattle.text_kit.specs.Terms.{Whole, Opening}
use Rattle.report_comments.proofs.Spacing.{spaced_list, spaced_more}
use Rattle.report_comments.proofs.puts.put_numbers.Goals as goal

pub loop-n-preserved : goal.loop-n-preserved
loop-n-preserved c = spaced_more (Opening ∷ []) (λ n. Whole n ∷ []) c.args.nums.now c.loop-n.n-index 0 c.loop-n-test.true c.loop-n.invariant c.in_ok-put_whole.ensures

pub returns : goal.returns
returns c = spaced_list (λ n. Whole n ∷ []) c.args.nums.now c.loop-n.n-index _ _ (omega (arith, c.loop-n-test.false)) c.loop-n.invariant c.put_close.ensures
