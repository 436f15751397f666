use Rattle.std.proofs.Common.{◌≡◌, ℤ, Some, ap, arith, length, of_z, refl, slice_index_or, sym, to_z, w64, ◌∙◌, slice_get}
use Rattle.checked_fraction.specs.Terms.{IsNarrow}
use Rattle.net_core.proofs.Library.{ints, slice_get_read}
use Rattle.master_bound.{specs.declared.rating.Rating.Rating, proofs.Entering.{column_of_cut, rated}}
use Rattle.master_bound.proofs.columns.column_at.Goals as goal

pub returns : goal.returns
returns c other got =
    let task = c.args.program.now.task in
    let links = task.net.now.links in
    let cuts = task.cuts.now in
    let cut = c.index-items-k.result in
    let rating = c.index-items-k-2.result in
    let at : slice_get cuts c.args.k ≡ Some cut = slice_get_read cuts (length cuts) c.args.k cut refl c.requires (rw c.items.ensures at c.index-items-k.is) in
    let gain = rated links cuts c.args.program.now.ratings c.args.k rating rating cut c.args.program.now.gains at (rw c.items-4.ensures at c.index-items-k-2.is) in
    let same : cut ≡ other = cc (at, got) in
    let read : slice_index_or c.items-4.result.now c.args.k rating ≡ rating = sym c.index-items-k-2.is in
    let back : to_z w64 (of_z w64 (slice_index_or c.items-4.result.now c.args.k rating).gain) ≡ rating.gain = ap (λ (r : Rating). to_z w64 (of_z w64 r.gain)) read ∙ whole rating.gain rating.narrow in
    column_of_cut links task.pairs.now cut other _ _ rating.gain _ same c.in_ok-copy.ensures back gain rating.narrow (rw (c.items-2.ensures, c.items-3.ensures) at c.in_ok-entries.ensures)
  where
    whole : (x : ℤ) → IsNarrow x → to_z w64 (of_z w64 x) ≡ x
    whole x h = omega (arith, ints, h)
