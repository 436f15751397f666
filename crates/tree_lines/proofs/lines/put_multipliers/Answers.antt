use Rattle.std.proofs.Common.{[], ◌∷◌, arith}
use Rattle.text_kit.specs.Terms.{Whole}
use Rattle.report_comments.proofs.Spacing.{spaced_all, spaced_more, spaced_none, spaced_then}
use Rattle.tree_lines.proofs.lines.put_multipliers.Goals as goal

pub loop-m-init : goal.loop-m-init
loop-m-init c = spaced_none c.args.text.now

pub loop-m-preserved : goal.loop-m-preserved
loop-m-preserved c =
    spaced_more [] (λ m. Whole m.num ∷ Whole m.cut ∷ []) c.args.multipliers.now c.loop-m.m-index (record { cut = 0; num = 0 }) c.loop-m-test.true c.loop-m.invariant
    (spaced_then c.in_ok-put_whole.ensures c.in_ok-put_whole-2.ensures)

pub returns : goal.returns
returns c = spaced_all [] (λ m. Whole m.num ∷ Whole m.cut ∷ []) c.args.multipliers.now c.loop-m.m-index (omega (arith, c.loop-m-test.false)) c.loop-m.invariant
