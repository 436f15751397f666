use Rattle.std.proofs.Common.{◌≡◌, length, slice_get, Some, ap, sym, ◌∙◌, subst}
use Rattle.net_core.proofs.Library.{slice_get-get_or}
use Rattle.simplex_core.{specs.Terms.{IsLeastMultiple, HaveNoMultiple}, proofs.Multiples.{denominator_first, denominator_next, denominator_none}}
use Rattle.key_paths.{specs.inner.Ends.row_den, proofs.Ending.row_den_at}
use Rattle.key_paths.proofs.finish.common_of_all.Goals as goal

pub loop-i-init : goal.loop-i-init
loop-i-init c = denominator_first (row_den c.args.rows.now)

pub loop-i-preserved : goal.loop-i-preserved
loop-i-preserved c =
    let rows = c.args.rows.now in
    let row = c.index-rows-i.result in
    let at : slice_get rows c.loop-i.i ≡ Some row = slice_get-get_or rows c.loop-i.i row c.loop-i-test.true ∙ ap Some (sym c.index-rows-i.is) in
    let is : c.size_of_den.result ≡ row_den rows c.loop-i.i = c.size_of_den.ensures.value ∙ row_den_at rows c.loop-i.i row at in
    denominator_next (row_den rows) c.loop-i.i c.loop-i.all c.in-Some.next c.loop-i.invariant
    (subst (λ x. IsLeastMultiple c.loop-i.all x c.in-Some.next) is c.in-Some.ensures)

pub returns-in_default-clause-none : goal.returns-in_default-clause-none
returns-in_default-clause-none c =
    let rows = c.args.rows.now in
    let row = c.index-rows-i.result in
    let at : slice_get rows c.loop-i.i ≡ Some row = slice_get-get_or rows c.loop-i.i row c.loop-i-test.true ∙ ap Some (sym c.index-rows-i.is) in
    let is : c.size_of_den.result ≡ row_den rows c.loop-i.i = c.size_of_den.ensures.value ∙ row_den_at rows c.loop-i.i row at in
    denominator_none (row_den rows) c.loop-i.i (length rows) c.loop-i.all c.loop-i-test.true c.loop-i.invariant
    (subst (λ x. HaveNoMultiple c.loop-i.all x) is c.in_default.ensures)
