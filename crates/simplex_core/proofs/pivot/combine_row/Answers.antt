use Rattle.std.proofs.Common.{length, arith, pos, ◌≡◌, ◌*ℤ◌}
use Rattle.net_core.proofs.Library.{ints, on_ok_weaker, IfErr-weaker}
use Rattle.checked_fraction.{specs.Terms.{num, combined, IsTooWide}, proofs.Reduced.unmixed}
use Rattle.simplex_core.proofs.Divided.{factored}
use Rattle.simplex_core.proofs.pivot.combine_row.Goals as goal

pub returns-then-p-eq0-clause-reduced : goal.returns-then-p-eq0-clause-reduced
returns-then-p-eq0-clause-reduced c =
    let row = c.args.row.now in
    let none : c.args.p.now ≡ pos 0 = omega (arith, ints, c.if-p-eq0.true) in
    unmixed (length row.nums) (num row.nums) (num c.args.pivot.now.nums) c.args.p.now c.args.q.now row.den none row.positive row.lowest

pub returns-clause-reduced : goal.returns-clause-reduced
returns-clause-reduced c = on_ok_weaker c.combine_by.result
    (λ r. factored _ (num c.args.row.now.nums) (num c.args.pivot.now.nums) c.args.p.now c.args.q.now c.args.row.now.den c.factors_of.result _ _ c.factors_of.ensures.times r)
    c.combine_by.ensures.reduced

pub returns-clause-wide : goal.returns-clause-wide
returns-clause-wide c =
    let row = c.args.row.now in
    let n = length row.nums in
    let f = c.factors_of.result in
    let pivot = num c.args.pivot.now.nums in
    let before = IsTooWide n (combined (num row.nums) f.p pivot f.q) (row.den *ℤ f.q) in
    let after = IsTooWide n (combined (num row.nums) c.args.p.now pivot c.args.q.now) (row.den *ℤ c.args.q.now) in
    IfErr-weaker c.combine_by.result before after
    (λ e wide. (wide.0, wide.1, factored n (num row.nums) pivot c.args.p.now c.args.q.now row.den f wide.0 wide.1 c.factors_of.ensures.times wide.2, wide.3))
    c.combine_by.ensures.wide
