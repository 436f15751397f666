use Rattle.std.proofs.Common.{◌∷◌, [], arith}
use Rattle.text_kit.{specs.Terms.{Whole, Opening}, proofs.Lemmas.{adds_list, adds_more}}
use Rattle.plan_report.proofs.lists.put_counts.Goals as goal

pub loop-n-preserved : goal.loop-n-preserved
loop-n-preserved c = adds_more (Opening ∷ []) (λ n. Whole n ∷ []) c.args.counts.now c.loop-n.n-index 0 c.loop-n-test.true c.loop-n.invariant c.in_ok-put_number.ensures

pub returns : goal.returns
returns c = adds_list (λ n. Whole n ∷ []) c.args.counts.now c.loop-n.n-index _ _ (omega (arith, c.loop-n-test.false)) c.loop-n.invariant c.put_close.ensures
