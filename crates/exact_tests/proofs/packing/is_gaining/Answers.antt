use Rattle.std.proofs.Common.{length, sym, subst}
use Rattle.net_core.proofs.Library.{AllByRecursion}
use Rattle.simplex_core.specs.Terms.{IsEntry}
use Rattle.exact_tests.proofs.Listed.{are_entries}
use Rattle.exact_tests.proofs.packing.is_gaining.Goals as goal

pub gains-requires-clause-entries : goal.gains-requires-clause-entries
gains-requires-clause-entries c =
    let n = length c.args.duals.now.nums in
    let x = c.args.shape.now in
    subst (λ es. AllByRecursion (IsEntry n) es) (sym c.entries_of.ensures) (are_entries n x.takes.first x.takes.second x.takes.third c.requires x.takes.fits_first x.takes.fits_second x.takes.fits_third)
