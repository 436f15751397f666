use Rattle.std.proofs.Common.{arith, length, ◌*ℤ◌}
use Rattle.net_core.proofs.Library.{ints, on_ok_weaker, IfErr-weaker}
use Rattle.checked_fraction.{specs.Rows.num, specs.Mixed.IsTooWide, specs.inner.Passes.raw, proofs.Reduced.{times_same, unmixed}}
use Rattle.checked_fraction.proofs.pivot.combine_by.Goals as goal

pub returns-then-mix-eq0-clause-reduced : goal.returns-then-mix-eq0-clause-reduced
returns-then-mix-eq0-clause-reduced c =
    unmixed (length c.args.row.now.nums) (num c.args.row.now.nums) (num c.args.pivot.now) c.args.mix.now.p c.args.mix.now.q c.args.row.now.den (omega (arith, ints, c.if-mix-eq0.true)) c.args.row.now.positive c.args.row.now.lowest

pub returns-clause-reduced : goal.returns-clause-reduced
returns-clause-reduced c = on_ok_weaker c.reduce.result
    (λ r. times_same _ c.args.row.now.nums c.args.pivot.now c.args.mix.now c.lowest.result c.args.row.now.den _ _ c.lowest.ensures.times r)
    c.reduce.ensures.reduced

pub returns-clause-wide : goal.returns-clause-wide
returns-clause-wide c =
    let n = length c.args.row.now.nums in
    let before = IsTooWide n (raw c.args.row.now.nums c.args.pivot.now c.lowest.result) (c.args.row.now.den *ℤ c.lowest.result.q) in
    let after = IsTooWide n (raw c.args.row.now.nums c.args.pivot.now c.args.mix.now) (c.args.row.now.den *ℤ c.args.mix.now.q) in
    IfErr-weaker c.reduce.result before after
    (λ e wide. (wide.0, wide.1, times_same n c.args.row.now.nums c.args.pivot.now c.args.mix.now c.lowest.result c.args.row.now.den wide.0 wide.1 c.lowest.ensures.times wide.2, wide.3))
    c.reduce.ensures.wide
