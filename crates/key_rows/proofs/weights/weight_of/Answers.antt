use Rattle.std.proofs.Common.{◌≡◌, ◌/◌, ◌*ℤ◌, pos, w64, to_z, ap, ◌∙◌, arith, div-le_self}
use Rattle.net_core.proofs.Library.{ints}
use Rattle.key_rows.proofs.Weighing.{times_back}
use Rattle.key_rows.proofs.weights.weight_of.Goals as goal

pub returns-clause-value : goal.returns-clause-value
returns-clause-value c =
    let size = c.size_of_den.result in
    let den = c.args.row.now.den in
    let low = div-le_self c.args.all size in
    let back : to_z w64 (c.args.all / size) ≡ pos (c.args.all / size) = omega (arith, ints, low, c.requires.low) in
    ap (λ x. x *ℤ den) back ∙ (ap (λ s. pos (c.args.all / s) *ℤ den) c.size_of_den.ensures.value ∙ times_back c.args.all den c.args.row.now.positive c.requires.divides)
