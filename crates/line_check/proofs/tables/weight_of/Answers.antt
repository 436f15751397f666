use Rattle.std.proofs.Common.{◌∙◌, arith}
use Rattle.line_check.proofs.TableParts.{weight_later}
use Rattle.line_check.proofs.tables.weight_of.Goals as goal

pub loop-k-preserved : goal.loop-k-preserved
loop-k-preserved c =
    c.loop-k.invariant ∙ weight_later c.args.kinds.now c.args.weights.now c.args.n c.loop-k.k c.requires c.loop-k-test.true (λ e. omega (arith, c.if-kinds-k.false, e))
