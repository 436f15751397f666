use Rattle.std.proofs.Common.{length, ap, subst, sym, ◌∙◌, OnOk, IfErr, ◌*ℤ◌}
use Rattle.checked_fraction.specs.Terms.{num, IsReduced, combined, IsTooWide}
use Rattle.simplex_core.{specs.Tables.{nums_at, IsRectangle}, specs.Turned.{IsNarrowOver, HavePivot}}
use Rattle.simplex_core.proofs.pivot.turn_objective.Goals as goal

pub combine_objective-requires-clause-rectangle : goal.combine_objective-requires-clause-rectangle
combine_objective-requires-clause-rectangle c = subst (λ xs. IsRectangle (length xs) xs) (sym c.items.ensures) c.requires.rectangle

pub combine_objective-requires-clause-equal : goal.combine_objective-requires-clause-equal
combine_objective-requires-clause-equal c = c.requires.equal ∙ sym (ap length c.items.ensures)

pub combine_objective-requires-clause-pivot : goal.combine_objective-requires-clause-pivot
combine_objective-requires-clause-pivot c =
    subst (λ xs. HavePivot c.items-2.result.now (length xs) c.args.r) (sym c.items.ensures)
    (subst (λ ps. HavePivot ps (length c.args.rows.now) c.args.r) (sym c.items-2.ensures) c.requires.pivot)

pub combine_objective-requires-clause-over : goal.combine_objective-requires-clause-over
combine_objective-requires-clause-over c = subst (λ xs. IsNarrowOver (num xs c.args.r) c.args.cost.now) (sym c.items-2.ensures) c.requires.over

pub returns-clause-length : goal.returns-clause-length
returns-clause-length c = c.combine_objective.ensures.length ∙ ap length c.items.ensures

pub returns-clause-reduced : goal.returns-clause-reduced
returns-clause-reduced c =
    let rows = c.args.rows.now in
    let duals = c.args.duals.now in
    let new = c.combine_objective.new.duals in
    let r = c.args.r in
    subst (λ ps. OnOk c.combine_objective.result (IsReduced (length rows) (combined (num duals.nums) c.args.cost.now (nums_at rows r) (num ps r)) (duals.den *ℤ num ps r) (num new.nums) new.den)) c.items-2.ensures
    (subst (λ xs. OnOk c.combine_objective.result (IsReduced (length xs) (combined (num duals.nums) c.args.cost.now (nums_at xs r) (num c.items-2.result.now r)) (duals.den *ℤ num c.items-2.result.now r) (num new.nums) new.den)) c.items.ensures
    c.combine_objective.ensures.reduced)

pub returns-clause-wide : goal.returns-clause-wide
returns-clause-wide c =
    let rows = c.args.rows.now in
    let duals = c.args.duals.now in
    let r = c.args.r in
    subst (λ ps. IfErr c.combine_objective.result (IsTooWide (length rows) (combined (num duals.nums) c.args.cost.now (nums_at rows r) (num ps r)) (duals.den *ℤ num ps r))) c.items-2.ensures
    (subst (λ xs. IfErr c.combine_objective.result (IsTooWide (length xs) (combined (num duals.nums) c.args.cost.now (nums_at xs r) (num c.items-2.result.now r)) (duals.den *ℤ num c.items-2.result.now r))) c.items.ensures
    c.combine_objective.ensures.wide)
