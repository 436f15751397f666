use Rattle.std.proofs.Common.{◌≡◌, length, w64, to_z, of_z, subst, arith, ◌-ℤ◌, ◌*ℤ◌}
use Rattle.net_core.proofs.Library.{ints}
use Rattle.checked_fraction.specs.Terms.{num, total}
use Rattle.simplex_law.specs.Terms.{dot}
use Rattle.simplex_core.specs.Columns.{entry_of}
use Rattle.simplex_core.proofs.product.gains.Goals as goal

pub returns : goal.returns
returns c =
    let duals = c.args.duals.now in
    let back : to_z w64 (of_z w64 c.args.gain) ≡ c.args.gain = omega (arith, ints, c.requires.gain) in
    let sum = subst (λ z. total c.reduced_cost_sum.result ≡ dot (length duals.nums) (num duals.nums) (entry_of c.args.entries.now) -ℤ (duals.den *ℤ z)) back c.reduced_cost_sum.ensures.total in
    (λ yes. omega (arith, ints, sum, c.is_negative.ensures.0 yes), λ less. c.is_negative.ensures.1 (omega (arith, ints, sum, less)))
