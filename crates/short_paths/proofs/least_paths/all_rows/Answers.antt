use Rattle.std.proofs.Common.{ap, length, arith}
use Rattle.short_paths.proofs.Gathering.{rows_more}
use Rattle.short_paths.proofs.least_paths.all_rows.Goals as goal

pub loop-target-preserved : goal.loop-target-preserved
loop-target-preserved c =
    let same = c.in_ok-row.ensures in
    (omega (arith, c.run.ensures.size), rw c.in_ok-push.ensures.ok (rows_more _ _ _ _ _ _ _ c.loop-target.invariant.1 (omega (arith, ap length same, ap length c.found.ensures, c.run.ensures.size)) (rw (same, c.found.ensures) c.run.ensures.table)))
