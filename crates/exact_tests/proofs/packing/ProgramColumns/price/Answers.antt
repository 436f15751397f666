use Rattle.std.proofs.Common.{◌≡◌, Some, List, slice_get, ap, subst, sym, ◌∙◌, ◌<ℤ◌, ◌*ℤ◌, false, true, refl}
use Rattle.net_core.proofs.Library.{slice_get-get_or}
use Rattle.checked_fraction.specs.Terms.{num}
use Rattle.simplex_law.specs.Terms.{dot}
use Rattle.simplex_core.{specs.Terms.{entry_of, Finds}, specs.declared.columns.Price.TheVariants.Optimal}
use Rattle.exact_tests.{specs.Listed.{IsListedColumn, entries_of}, specs.declared.packing.Shape.Shape, specs.declared.packing.Label.TheVariants.Listed, proofs.Listed.{found_copy, none_next, none_listed}}
use Rattle.exact_tests.proofs.packing.ProgramColumns.price.Goals as goal

pub loop-i-preserved : goal.loop-i-preserved
loop-i-preserved c =
    let shapes = c.items-shapes.result.now in
    let y = c.index-shapes-i.result in
    let at : slice_get shapes c.loop-i.i ≡ Some y = slice_get-get_or shapes c.loop-i.i y c.loop-i-test.true ∙ ap Some (sym c.index-shapes-i.is) in
    none_next (λ (x : Shape). dot 3 (num c.args.duals.now.nums) (entry_of (entries_of x.takes.first x.takes.second x.takes.third)) <ℤ (c.args.duals.now.den *ℤ x.gain)) shapes c.loop-i.i y c.loop-i.invariant at
    (λ gains. let impossible : false ≡ true = c.if-is_gaining.ensures.1 gains in cc)

pub returns-then-is_gaining-clause-found : goal.returns-then-is_gaining-clause-found
returns-then-is_gaining-clause-found c =
    let shapes = c.items-shapes.result.now in
    let y = c.index-shapes-i.result in
    let at : slice_get c.args.self.now.shapes c.loop-i.i ≡ Some y =
    ap (λ (xs : List Shape). slice_get xs c.loop-i.i) (sym c.items-shapes.ensures) ∙ (slice_get-get_or shapes c.loop-i.i y c.loop-i-test.true ∙ ap Some (sym c.index-shapes-i.is)) in
    found_copy Listed (λ (x : Shape). x.gain) (λ x. x.takes.first) (λ x. x.takes.second) (λ x. x.takes.third) c.args.self.now.shapes c.args.duals.now c.loop-i.i y c.found.result at y.narrow y.takes.fits_first y.takes.fits_second y.takes.fits_third
    (c.if-is_gaining.ensures.0 refl) c.found.ensures

pub returns-clause-found : goal.returns-clause-found
returns-clause-found c =
    subst (λ (xs : List Shape). Finds 3 (IsListedColumn Listed (λ x. x.gain) (λ x. entries_of x.takes.first x.takes.second x.takes.third) xs) c.args.duals.now Optimal) c.items-shapes.ensures
    (none_listed Listed (λ (x : Shape). x.gain) (λ x. x.takes.first) (λ x. x.takes.second) (λ x. x.takes.third) c.items-shapes.result.now c.args.duals.now c.loop-i.i c.loop-i-test.false c.loop-i.invariant)
