use Rattle.std.proofs.Common.{◌≡◌, length, slice_get, Some, ap, sym, ◌∙◌, subst}
use Rattle.net_core.proofs.Library.{slice_get-get_or}
use Rattle.simplex_core.{specs.Terms.{IsLeastMultiple, HaveNoMultiple}, proofs.Multiples.{denominator_first, denominator_next, denominator_none}}
use Rattle.key_rows.{specs.KeyRows.own_den, proofs.Weighing.own_den_row}
use Rattle.key_rows.proofs.weights.common_of.Goals as goal

pub loop-i-init : goal.loop-i-init
loop-i-init c = denominator_first (own_den c.args.rows.now c.args.owners.now c.args.demand)

pub loop-i-preserved : goal.loop-i-preserved
loop-i-preserved c =
    let rows = c.args.rows.now in
    let owners = c.args.owners.now in
    let row = c.index-rows-i.result in
    let at : slice_get rows c.loop-i.i ≡ Some row = slice_get-get_or rows c.loop-i.i row c.loop-i-test.true ∙ ap Some (sym c.index-rows-i.is) in
    let is : c.own_den_of-den.result ≡ own_den rows owners c.args.demand c.loop-i.i = c.own_den_of-den.ensures.value ∙ own_den_row rows owners c.args.demand c.loop-i.i row at in
    denominator_next (own_den rows owners c.args.demand) c.loop-i.i c.loop-i.all c.in-Some.next c.loop-i.invariant
    (subst (λ x. IsLeastMultiple c.loop-i.all x c.in-Some.next) is c.in-Some.ensures)

pub returns-in_default-clause-none : goal.returns-in_default-clause-none
returns-in_default-clause-none c =
    let rows = c.args.rows.now in
    let owners = c.args.owners.now in
    let row = c.index-rows-i.result in
    let at : slice_get rows c.loop-i.i ≡ Some row = slice_get-get_or rows c.loop-i.i row c.loop-i-test.true ∙ ap Some (sym c.index-rows-i.is) in
    let is : c.own_den_of-den.result ≡ own_den rows owners c.args.demand c.loop-i.i = c.own_den_of-den.ensures.value ∙ own_den_row rows owners c.args.demand c.loop-i.i row at in
    denominator_none (own_den rows owners c.args.demand) c.loop-i.i (length rows) c.loop-i.all c.loop-i-test.true c.loop-i.invariant
    (subst (λ x. HaveNoMultiple c.loop-i.all x) is c.in_default.ensures)
