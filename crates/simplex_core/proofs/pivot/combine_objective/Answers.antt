use Rattle.std.proofs.Common.{◌≡◌, length, subst, sym, ◌∙◌, arith, OnOk, IfErr, ◌*ℤ◌}
use Rattle.checked_fraction.specs.Terms.{num, IsReduced, combined, IsTooWide}
use Rattle.simplex_core.{specs.Tables.nums_of, proofs.Lists.read_at}
use Rattle.simplex_core.proofs.pivot.combine_objective.Goals as goal

pub returns-clause-reduced : goal.returns-clause-reduced
returns-clause-reduced c =
    let rows = c.args.rows.now in
    let row = c.index-rows-r.result in
    let duals = c.args.duals.now in
    let new = c.combine_row.new.row in
    let q = num c.args.products.now c.args.r in
    subst (λ o. OnOk c.combine_row.result (IsReduced (length rows) (combined (num duals.nums) c.args.cost.now (num (nums_of o)) q) (duals.den *ℤ q) (num new.nums) new.den))
    (sym (read_at rows c.args.r row c.requires.pivot.inside c.index-rows-r.is))
    (subst (λ n. OnOk c.combine_row.result (IsReduced n (combined (num duals.nums) c.args.cost.now (num row.nums) q) (duals.den *ℤ q) (num new.nums) new.den)) c.requires.equal c.combine_row.ensures.reduced)

pub returns-clause-wide : goal.returns-clause-wide
returns-clause-wide c =
    let rows = c.args.rows.now in
    let row = c.index-rows-r.result in
    let duals = c.args.duals.now in
    let q = num c.args.products.now c.args.r in
    subst (λ o. IfErr c.combine_row.result (IsTooWide (length rows) (combined (num duals.nums) c.args.cost.now (num (nums_of o)) q) (duals.den *ℤ q)))
    (sym (read_at rows c.args.r row c.requires.pivot.inside c.index-rows-r.is))
    (subst (λ n. IfErr c.combine_row.result (IsTooWide n (combined (num duals.nums) c.args.cost.now (num row.nums) q) (duals.den *ℤ q))) c.requires.equal c.combine_row.ensures.wide)

pub bounds-products-r : goal.bounds-products-r
bounds-products-r c = omega (arith, c.requires.pivot.inside, c.requires.pivot.count)

pub combine_row-requires-clause-equal : goal.combine_row-requires-clause-equal
combine_row-requires-clause-equal c =
    let rows = c.args.rows.now in
    let width : length c.index-rows-r.result.nums ≡ length rows =
    subst (λ o. length (nums_of o) ≡ length rows) (read_at rows c.args.r c.index-rows-r.result c.requires.pivot.inside c.index-rows-r.is) (c.requires.rectangle c.args.r c.requires.pivot.inside) in
    c.requires.equal ∙ sym width

pub combine_row-requires-clause-positive : goal.combine_row-requires-clause-positive
combine_row-requires-clause-positive c = c.requires.pivot.positive

pub combine_row-requires-clause-narrow : goal.combine_row-requires-clause-narrow
combine_row-requires-clause-narrow c = c.requires.pivot.narrow

pub combine_row-requires-clause-over : goal.combine_row-requires-clause-over
combine_row-requires-clause-over c = c.requires.over

pub returns-clause-length : goal.returns-clause-length
returns-clause-length c = c.combine_row.ensures.length ∙ c.requires.equal
