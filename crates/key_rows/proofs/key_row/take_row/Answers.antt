use Rattle.std.proofs.Common.{ap}
use Rattle.checked_fraction.specs.Terms.{num}
use Rattle.key_rows.proofs.Rows.{one_time}
use Rattle.key_rows.proofs.key_row.take_row.Goals as goal

pub returns-then-owner-demand-clause-total : goal.returns-then-owner-demand-clause-total
returns-then-owner-demand-clause-total c = one_time _ _ c.args.owner c.args.demand c.args.weight.now _ _ c.if-owner-demand.true c.subtract.ensures.total (ap (λ xs. num xs c.args.k) c.nums.ensures)
