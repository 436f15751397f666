use Rattle.std.proofs.Common.{◌≡◌, ℕ, List, MatchOption, Option, arith, subst}
use Rattle.tree_check.specs.Boxes.{IsFixedBox, least_counts}
use Rattle.tree_boxes.{specs.Searches.aimed, proofs.Looking.unsettled_box, proofs.Results.ok_anyway}
use Rattle.tree_boxes.proofs.evaluation.look.Goals as goal

pub look_fixed-requires-clause-unsettled : goal.look_fixed-requires-clause-unsettled
look_fixed-requires-clause-unsettled c =
    let a = c.args.aim.now in
    let s = c.args.search.now in
    let told = c.in_ok-best.ensures in
    unsettled_box (aimed a) a.plan.now s c.args.boxed c.in_ok-best.best c.requires.search (c.emptied_by.ensures.none c.in_default.is) told.valued told.free
    (omega (arith, c.if-best-aim.false))

pub look_divided-requires-clause-unsettled : goal.look_divided-requires-clause-unsettled
look_divided-requires-clause-unsettled c =
    let a = c.args.aim.now in
    let s = c.args.search.now in
    let told = c.in_ok-best.ensures in
    unsettled_box (aimed a) a.plan.now s c.args.boxed c.in_ok-best.best c.requires.search (c.emptied_by.ensures.none c.in_default.is) told.valued told.free
    (omega (arith, c.if-best-aim.false))

pub returns-in-Some-2-clause-unfixed : goal.returns-in-Some-2-clause-unfixed
returns-in-Some-2-clause-unfixed c =
    let box = c.items.result.now in
    let told = subst (λ (o : Option (List (List ℕ))). MatchOption o (IsFixedBox box → ⊥) (λ counts. IsFixedBox box × (counts ≡ least_counts box))) c.in-Some-2.is c.in_ok-counts.ensures in
    ok_anyway c.look_fixed.result _ (λ unfixed. absurd (unfixed (subst IsFixedBox c.items.ensures told.0)))
