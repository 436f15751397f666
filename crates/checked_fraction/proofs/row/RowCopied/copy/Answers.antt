use Rattle.std.proofs.Common.{◌≡◌, ◌<◌, ◌^◌, length, to_z, of_z, sym, subst, arith, w64}
use Rattle.net_core.proofs.Library.{ints}
use Rattle.checked_fraction.specs.Rows.{num, IsNarrow, IsInLowestTerms}
use Rattle.checked_fraction.proofs.row.RowCopied.copy.Goals as goal

pub invariant_of-result-clause-narrow : goal.invariant_of-result-clause-narrow
invariant_of-result-clause-narrow c = λ k. subst (λ nums. IsNarrow (num nums k)) (sym c.in_ok-copy.ensures) (c.args.self.now.narrow k)

pub invariant_of-result-clause-lowest : goal.invariant_of-result-clause-lowest
invariant_of-result-clause-lowest c =
    let row = c.args.self.now in
    let back : to_z w64 (of_z w64 row.den) ≡ row.den = omega (arith, ints, row.narrow_den) in
    let nums = c.in_ok-copy.field-0 in
    subst (IsInLowestTerms (length nums) (num nums)) (sym back) (subst (λ nums. IsInLowestTerms (length nums) (num nums) row.den) (sym c.in_ok-copy.ensures) row.lowest)

pub invariant_of-result-clause-short : goal.invariant_of-result-clause-short
invariant_of-result-clause-short c = subst (λ nums. length nums < 2 ^ 32) (sym c.in_ok-copy.ensures) c.args.self.now.short
