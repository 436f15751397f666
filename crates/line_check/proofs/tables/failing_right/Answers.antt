use Rattle.std.proofs.Common.{◌+◌, subst, sym}
use Rattle.plan_terms.specs.Terms.{case_of}
use Rattle.line_check.proofs.TableParts.{IsLeastSo, more_so}
use Rattle.line_check.proofs.tables.failing_right.Goals as goal

pub loop-k-preserved : goal.loop-k-preserved
loop-k-preserved c =
    let p = case_of c.args.instance.now in
    let over = c.args.over.now in
    let kinds = c.args.kinds.now in
    let weights = c.args.weights.now in
    let k = c.loop-k.k in
    subst (λ n. IsLeastSo p over kinds weights (k + 1) n) (sym c.min-right.ensures) (more_so p over kinds weights k c.loop-k.right c.weight_without.result c.loop-k.invariant c.weight_without.ensures)
